-- The numbers of a line at its place: when they suit its kind, and that the line takes all of them.
use Rattle.std.proofs.Common.{◌≡◌, ℕ, zero, suc, ◌+◌, ◌-◌, ◌*◌, ◌≤◌, ◌<◌, Bool, List, [], ◌∷◌, ◌++◌, length, take, drop, refl, sym, ap, subst, ◌∙◌, arith, ℤ, pos, negsuc, length-drop}
use Rattle.std.specs.Bool.{Decides}
use Rattle.std.specs.Prelude.{nat_le}
use Rattle.std.proofs.lemmas.Bool.Decides.{nat_tests, Decides-and, Decides-like, Decides-eqb, same_from_decides}
use Rattle.std.proofs.lemmas.List.{nil_from_length, take-append-drop}
use Rattle.std.proofs.Math.Seq.{drop-cons}
use Rattle.drg_derivation.specs.Lines.{at, kind_of, numbers_of, line_of, line_made, IsMade}
use Rattle.drg_derivation.specs.LineReading.{are_twice, has_tail, suits}
use Rattle.drg_derivation.specs.Shapes.{Form, form_of, first_of, AreTwice, HasTail, Suits}
use Rattle.drg_derivation.specs.declared.context.Context.{Context}
use Rattle.drg_derivation.specs.declared.kind.Kind.{Kind}
use Rattle.drg_derivation.specs.declared.kind.Kind.TheVariants as kind
use Rattle.drg_derivation.specs.declared.kind.Tail.{Tail}
use Rattle.drg_derivation.specs.declared.kind.Tail.TheVariants.{Nothing, Sizes, Row, FieldNumber, FieldRow, Pairs}
use Rattle.drg_derivation.specs.declared.line.Line.{Line}
use Rattle.drg_derivation.specs.declared.line.Line.TheVariants as line

pub le-Decides : (a b : ℕ) → Decides (nat_le a b) (a ≤ b)
le-Decides a b = (λ e. grind (arith, nat_tests), λ h. grind (arith, nat_tests))

twice-Decides : (m : ℤ) (count : ℕ) → Decides (are_twice m count) (AreTwice m count)
twice-Decides (pos m) count = Decides-and _ _ (le-Decides 1 m) (Decides-eqb count (2 * m))
twice-Decides (negsuc m) count = (λ e. (let low = (le-Decides 1 0).0 e in omega arith), λ h. absurd h)

tail-Decides : (context : Context) (tail : Tail) (first : ℤ) (count : ℕ) → Decides (has_tail context tail first count) (HasTail context tail first count)
tail-Decides context Nothing first count = Decides-eqb count 0
tail-Decides context Sizes first count = Decides-and _ _ (le-Decides 1 count) (le-Decides count (context.d + 1))
tail-Decides context Row first count = Decides-eqb count (context.d + 1)
tail-Decides context FieldNumber first count = Decides-eqb count context.width
tail-Decides context FieldRow first count = Decides-eqb count (context.width * (context.d + 1))
tail-Decides context Pairs first count = twice-Decides first count

pub suits-Decides : (context : Context) (form : Form) (first : ℤ) (count : ℕ) → Decides (suits context form first count) (Suits context form first count)
suits-Decides context form first count =
    Decides-like (suits context form first count)
    (λ h. record { known = h.0.0; led = h.0.1; followed = h.1 })
    (λ s. ((s.known, s.led), s.followed))
    (Decides-and _ _ (Decides-and _ _ (le-Decides form.since context.version) (le-Decides form.leading count)) (tail-Decides context form.tail first (count - form.leading)))

-- a test that decides it is the one of the definition
pub suits-is : (b : Bool) (context : Context) (form : Form) (first : ℤ) (count : ℕ) → Decides b (Suits context form first count) → b ≡ suits context form first count
suits-is b context form first count h = same_from_decides b (suits context form first count) h (suits-Decides context form first count)

-- so many numbers from a place on
firsts : ℕ → ℕ → List ℤ → List ℤ
firsts i zero z = []
firsts i (suc n) z = at z i ∷ firsts (i + 1) n z

firsts-from : (z : List ℤ) (i n : ℕ) → i + n ≡ length z → firsts i n z ≡ drop i z
unfolding firsts
firsts-from z i zero e = sym (nil_from_length (drop i z) (omega (arith, e, length-drop i z)))
firsts-from z i (suc n) e =
    let here : i < length z = omega arith in
    let next : i + 1 ≡ suc i = omega arith in
    rw (firsts-from z (i + 1) n (omega arith), next) (sym (drop-cons z i (pos 0) here))

firsts-all : (z : List ℤ) (n : ℕ) → length z ≡ n → firsts 0 n z ≡ z
firsts-all z n e = firsts-from z 0 n (omega arith)

-- what the line of a form takes of the numbers that follow
tail_taken : Tail → List ℤ → List ℤ
tail_taken Nothing values = []
tail_taken _ values = values

tail-all : (context : Context) (tail : Tail) (first : ℤ) (values : List ℤ) → HasTail context tail first (length values) → tail_taken tail values ≡ values
unfolding tail_taken
tail-all context Nothing first values h = sym (nil_from_length values h)
tail-all context _ first values h = refl

taken : (k : Kind) (front values : List ℤ) → numbers_of (line_of k front values) ≡ firsts 0 (form_of k).leading front ++ tail_taken (form_of k).tail values
unfolding firsts tail_taken
taken kind.K front values = refl
taken _ front values = refl

-- the line takes all numbers that suit its kind
pub made-all : (context : Context) (k : Kind) (numbers : List ℤ) → Suits context (form_of k) (first_of numbers) (length numbers) → IsMade k numbers
made-all context k numbers s =
    let n = (form_of k).leading in
    let left : length (drop n numbers) ≡ length numbers - n = length-drop n numbers in
    let followed : HasTail context (form_of k).tail (first_of numbers) (length (drop n numbers)) =
    subst (λ (m : ℕ). HasTail context (form_of k).tail (first_of numbers) m) (sym left) s.followed in
    let front : firsts 0 n (take n numbers) ≡ take n numbers = firsts-all (take n numbers) n (length-taken n numbers s.led) in
    (s.led, taken k (take n numbers) (drop n numbers) ∙ (rw (front, tail-all context (form_of k).tail (first_of numbers) (drop n numbers) followed) (take-append-drop n numbers)))
  where
    length-taken : (n : ℕ) (numbers : List ℤ) → n ≤ length numbers → length (take n numbers) ≡ n
    length-taken zero numbers h = refl
    length-taken (suc n) [] h = absurd (omega arith)
    length-taken (suc n) (z ∷ zs) h = ap suc (length-taken n zs (omega arith))

-- a line is made of its numbers
pub made-again : (l : Line) → line_made (kind_of l) (numbers_of l) ≡ l
made-again (line.K values) = refl
made-again _ = refl

pub kind-made : (k : Kind) (numbers : List ℤ) → kind_of (line_made k numbers) ≡ k
kind-made kind.K numbers = refl
kind-made _ numbers = refl

-- only the numbers at places count
pub same-front : (k : Kind) (f g values : List ℤ) → ((i : ℕ) → at f i ≡ at g i) → line_of k f values ≡ line_of k g values
same-front kind.K f g values h = refl
same-front _ f g values h = cc (h 0, h 1, h 2, h 3, h 4)
