-- What bytes begin with is determined line by line.
use Rattle.std.proofs.Common.{◌≡◌, ℕ, zero, suc, ◌+◌, ◌-◌, ◌*◌, ◌≤◌, inl, inr, Bool, true, false, List, [], ◌∷◌, ◌++◌, length, None, Some, refl, sym, ap, subst, ◌∙◌, arith, append_assoc, ℤ, pos, negsuc}
use Rattle.std.specs.Prelude.{◌≢◌, Option, ◌==◌, ◌&&◌, not}
use Rattle.std.proofs.lemmas.Bool.Decides.{nat_tests}
use Rattle.drg_array.specs.Text.{IsNumberFrom}
use Rattle.drg_array.specs.declared.claim_name.ClaimName.{ClaimName}
use Rattle.drg_array.specs.declared.claim_name.ClaimName.TheVariants.{OfTest}
use Rattle.drg_array.specs.declared.test.Test.TheVariants as test
use Rattle.drg_derivation.specs.Integers.{IsPositiveText, IsIntegerText, AreIntegers}
use Rattle.drg_derivation.specs.Places.{Reading, start, HandsOut, HandsOutAll, Stops, StopsAfter, IsBad, IsRefusedAt, IsLineAt, StandsAt, AreLinesFrom, HasNoEnd, next_place}
use Rattle.drg_derivation.specs.Words.{Written, IsWrittenText, word_text, second_text, words_text, written}
use Rattle.drg_derivation.specs.WordReading.{kind_word}
use Rattle.drg_derivation.specs.declared.kind.Kind.{Kind}
use Rattle.drg_derivation.specs.declared.kind.Kind.TheVariants as kind
use Rattle.drg_derivation.specs.declared.place.Place.{Place}
use Rattle.drg_derivation.specs.declared.place.Place.TheVariants.{After}
use Rattle.drg_derivation.specs.declared.view.LineView.{LineView}
use Rattle.drg_derivation.specs.declared.word.Word.{Word}
use Rattle.drg_derivation.specs.declared.word.Word.TheVariants as word
use Rattle.drg_derivation.proofs.LineLaws.{one-at}

no_end : List ℕ → Bool
no_end [] = true
no_end (c ∷ cs) = not (c == 10) && no_end cs

first-open : (c : ℕ) (b : Bool) → (not (c == 10) && b) ≡ true → (c ≢ 10) × (b ≡ true)
first-open c true e = (λ same. grind (arith, nat_tests), refl)
first-open c false e = (let h = e in grind (arith, nat_tests))

open-test : (xs : List ℕ) → no_end xs ≡ true → HasNoEnd xs
unfolding no_end
open-test [] e = tt
open-test (c ∷ cs) e = (let f = first-open c (no_end cs) e in (f.0, open-test cs f.1))

open-join : (xs ys : List ℕ) → HasNoEnd xs → HasNoEnd ys → HasNoEnd (xs ++ ys)
open-join [] ys a b = b
open-join (x ∷ xs) ys a b = (a.0, open-join xs ys a.1 b)

open-kind : (k : Kind) → no_end (kind_word k) ≡ true
unfolding no_end
open-kind kind.K = refl
open-kind _ = refl

open-name : (t : ClaimName) → no_end (second_text (Some t)) ≡ true
unfolding no_end
open-name (OfTest test.First) = refl
open-name _ = refl

open-word : (w : Word) → no_end (word_text w) ≡ true
unfolding no_end
open-word (word.Evidence k) = open-kind k
open-word _ = refl

open-second : (name : Option ClaimName) → HasNoEnd (second_text name)
open-second None = tt
open-second (Some t) = open-test (second_text (Some t)) (open-name t)

above : (c k : ℕ) → 11 ≤ k → k ≤ c → c ≢ 10
above c k a b e = omega (arith, a, b, e)

open-digits : (v : ℕ) (text : List ℕ) (n : ℕ) → IsNumberFrom v text n → HasNoEnd text
open-digits v [] n h = tt
open-digits v (c ∷ cs) n (digit, more) = (above c 48 (omega arith) digit.0, open-digits (v * 10 + (c - 48)) cs n more)

open-positive : (text : List ℕ) (n : ℕ) → IsPositiveText text n → HasNoEnd text
open-positive [] n h = tt
open-positive (c ∷ cs) n (low, high, small, more) = (above c 49 (omega arith) low, open-digits (c - 48) cs n more)

open-integer : (text : List ℕ) (z : ℤ) → IsIntegerText text z → HasNoEnd text
open-integer text (pos zero) h = rw h (above 48 48 (omega arith) (omega arith), tt)
open-integer text (pos (suc n)) h = open-positive text (suc n) h
open-integer text (negsuc n) (digits, whole, h) = rw whole (above 45 45 (omega arith) (omega arith), open-positive digits (suc n) h)

open-integers : (text : List ℕ) (zs : List ℤ) → AreIntegers text zs → HasNoEnd text
open-integers text [] h = rw h tt
open-integers text (z ∷ zs) (first, rest, whole, number, more) =
    rw whole (above 32 32 (omega arith) (omega arith), open-join first rest (open-integer first z number) (open-integers rest zs more))

open-written : (text : List ℕ) (line : Written) → IsWrittenText text line → HasNoEnd text
open-written text line t =
    rw t.whole (open-join (words_text line) t.numbers
    (open-join (word_text line.word) (second_text line.name) (open-test (word_text line.word) (open-word line.word)) (open-second line.name))
    (open-integers t.numbers line.numbers t.numbers_are))

pub open-line : (place : Place) (text : List ℕ) (line : LineView) → IsLineAt place text line → HasNoEnd text
open-line place text line is = open-written text (written line) is.written

-- bytes have one first line
pub split-line : (xs ys us vs : List ℕ) → HasNoEnd xs → HasNoEnd us → xs ++ 10 ∷ ys ≡ us ++ 10 ∷ vs → (xs ≡ us) × (ys ≡ vs)
split-line [] ys [] vs a b e = (refl, cc)
split-line [] ys (u ∷ us) vs a b e = absurd (b.0 (let same : u ≡ 10 = cc in same))
split-line (x ∷ xs) ys [] vs a b e = absurd (a.0 (let same : x ≡ 10 = cc in same))
split-line (x ∷ xs) ys (u ∷ us) vs a b e =
    let first : x ≡ u = cc in
    let rest : xs ++ 10 ∷ ys ≡ us ++ 10 ∷ vs = cc in
    let s = split-line xs ys us vs a.1 b.1 rest in
    let front = s.0 in (cc, s.1)

no-first : (bytes text more : List ℕ) → HasNoEnd bytes → bytes ≡ text ++ 10 ∷ more → ⊥
no-first [] [] more h e = (let k = e in cc)
no-first [] (t ∷ text) more h e = (let k = e in cc)
no-first (b ∷ bytes) [] more h e = h.0 (let same : b ≡ 10 = cc in same)
no-first (b ∷ bytes) (t ∷ text) more h e = no-first bytes text more h.1 (let rest : bytes ≡ text ++ 10 ∷ more = cc in rest)

reading-eq : (a b : Reading) → a.place ≡ b.place → a.rest ≡ b.rest → a.line ≡ b.line → a ≡ b
reading-eq a b p r l =
    let one : a ≡ record { place = b.place; rest = a.rest; line = a.line } = ap (λ (x : Place). let y : Reading = record { place = x; rest = a.rest; line = a.line } in y) p in
    let two : record { place = b.place; rest = a.rest; line = a.line } ≡ record { place = b.place; rest = b.rest; line = a.line } = ap (λ (x : List ℕ). let y : Reading = record { place = b.place; rest = x; line = a.line } in y) r in
    let three : record { place = b.place; rest = b.rest; line = a.line } ≡ b = ap (λ (x : ℕ). let y : Reading = record { place = b.place; rest = b.rest; line = x } in y) l in
    one ∙ (two ∙ three)

pub one-take : (reading one other : Reading) (line twin : LineView) → HandsOut reading line one → HandsOut reading twin other → (line ≡ twin) × (one ≡ other)
one-take reading one other line twin a b =
    let s = split-line a.text one.rest b.text other.rest (open-line reading.place a.text line a.is) (open-line reading.place b.text twin b.is) (sym a.whole ∙ b.whole) in
    let same = one-at reading.place a.text line twin a.is (subst (λ (l : List ℕ). IsLineAt reading.place l twin) (sym s.0) b.is) in
    (same, reading-eq one other (a.place ∙ (ap (λ (w : LineView). next_place reading.place w) same ∙ sym b.place)) s.1 (a.counted ∙ sym b.counted))

pub line-or-refusal : (reading next : Reading) (line : LineView) → HandsOut reading line next → IsBad reading.place reading.rest → ⊥
line-or-refusal reading next line t (inl unended) = no-first reading.rest t.text next.rest unended t.whole
line-or-refusal reading next line t (inr (first, more, whole, unended, none)) =
    let s = split-line t.text next.rest first more (open-line reading.place t.text line t.is) unended (sym t.whole ∙ whole) in
    none line (subst (λ (l : List ℕ). IsLineAt reading.place l line) s.0 t.is)

not-past : (place : Place) (line : LineView) → place ≡ After → StandsAt place line → ⊥
not-past place line e s = subst (λ (p : Place). StandsAt p line) e s

-- what is handed out up to the end is determined
pub one-hands : (r a b : Reading) (xs ys : List LineView) → HandsOutAll r xs a → HandsOutAll r ys b → a.place ≡ After → b.place ≡ After → (xs ≡ ys) × (a ≡ b)
one-hands r a b [] [] h k e f = (refl, h ∙ sym k)
one-hands r a b [] (y ∷ ys) h (mid, t, k) e f = absurd (not-past r.place y (ap (λ (x : Reading). x.place) (sym h) ∙ e) t.is.stands)
one-hands r a b (x ∷ xs) [] (mid, t, h) k e f = absurd (not-past r.place x (ap (λ (z : Reading). z.place) (sym k) ∙ f) t.is.stands)
one-hands r a b (x ∷ xs) (y ∷ ys) (mid, t, h) (other, u, k) e f =
    let same = one-take r mid other x y t u in
    let rest = one-hands mid a b xs ys h (subst (λ (z : Reading). HandsOutAll z ys b) (sym same.1) k) e f in
    let first = same.0 in
    let more = rest.0 in (cc, rest.1)

pub not-both : (r a b : Reading) (xs ys : List LineView) (n : ℕ) → HandsOutAll r xs a → a.place ≡ After → HandsOutAll r ys b → Stops b n → ⊥
not-both r a b [] [] n h e k s = s.going (ap (λ (z : Reading). z.place) (k ∙ sym h) ∙ e)
not-both r a b [] (y ∷ ys) n h e (mid, t, k) s = not-past r.place y (ap (λ (z : Reading). z.place) (sym h) ∙ e) t.is.stands
not-both r a b (x ∷ xs) [] n (mid, t, h) e k s = line-or-refusal r mid x t (subst (λ (z : Reading). IsBad z.place z.rest) k s.bad)
not-both r a b (x ∷ xs) (y ∷ ys) n (mid, t, h) e (other, u, k) s =
    let same = one-take r mid other x y t u in
    not-both mid a b xs ys n h e (subst (λ (z : Reading). HandsOutAll z ys b) (sym same.1) k) s

pub one-stop : (r a b : Reading) (xs ys : List LineView) (m n : ℕ) → HandsOutAll r xs a → Stops a m → HandsOutAll r ys b → Stops b n → m ≡ n
one-stop r a b [] [] m n h s k t = s.counted ∙ (ap (λ (z : Reading). suc z.line) (h ∙ sym k) ∙ sym t.counted)
one-stop r a b [] (y ∷ ys) m n h s (mid, u, k) t = absurd (line-or-refusal r mid y u (subst (λ (z : Reading). IsBad z.place z.rest) h s.bad))
one-stop r a b (x ∷ xs) [] m n (mid, u, h) s k t = absurd (line-or-refusal r mid x u (subst (λ (z : Reading). IsBad z.place z.rest) k t.bad))
one-stop r a b (x ∷ xs) (y ∷ ys) m n (mid, u, h) s (other, v, k) t =
    let same = one-take r mid other x y u v in
    one-stop mid a b xs ys m n h s (subst (λ (z : Reading). HandsOutAll z ys b) (sym same.1) k) t

-- lines at their places are handed out
pub hands-from : (r : Reading) (text more : List ℕ) (lines : List LineView) (last : Place) → r.rest ≡ text ++ more → AreLinesFrom r.place text lines last
    → HandsOutAll r lines (record { place = last; rest = more; line = r.line + length lines })
hands-from r text more [] last e (none, same) =
    let rest : r.rest ≡ more = e ∙ ap (λ (l : List ℕ). l ++ more) none in
    reading-eq (record { place = last; rest = more; line = r.line + 0 }) r same (sym rest) (omega arith)
hands-from r text more (line ∷ lines) last e (first, rest, whole, is, others) =
    let mid : Reading = record { place = next_place r.place line; rest = rest ++ more; line = suc r.line } in
    let t : HandsOut r line mid = record { text = first; whole = e ∙ (ap (λ (l : List ℕ). l ++ more) whole ∙ append_assoc first (10 ∷ rest) more); is = is; place = refl; counted = refl } in
    let count : suc r.line + length lines ≡ r.line + suc (length lines) = omega arith in
    let onward = hands-from mid rest more lines last refl others in
    (mid, t, subst (λ (n : ℕ). HandsOutAll mid lines (record { place = last; rest = more; line = n })) count onward)

pub stops-from : (bytes : List ℕ) (number : ℕ) → IsRefusedAt bytes number → StopsAfter (start bytes) number
stops-from bytes number r = record {
  lines = r.lines;
  last = record { place = r.place; rest = r.rest; line = 0 + length r.lines };
  hands = hands-from (start bytes) r.before r.rest r.lines r.place r.whole r.lines_are;
  stops = record { going = r.going; counted = (let c = r.counted in omega arith); bad = r.bad };
}
