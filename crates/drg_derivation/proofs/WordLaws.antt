-- Words are found by their names, and stand before the first space.
use Rattle.std.proofs.Common.{◌≡◌, ℕ, zero, suc, ◌+◌, ◌<◌, inl, inr, Bool, true, false, List, [], ◌∷◌, ◌++◌, length, drop, get_or, None, Some, refl, sym, ap, subst, ◌∙◌, arith}
use Rattle.std.specs.Prelude.{Option, is_some, IfSome, IfNone, bytes_eq, cond, ◌==◌}
use Rattle.std.proofs.lemmas.Slice.Eq.{bytes_eq-Decides}
use Rattle.drg_array.specs.Claims.{name_text, claim_names}
use Rattle.drg_array.specs.declared.claim_name.ClaimName.{ClaimName}
use Rattle.drg_array.specs.declared.claim_name.ClaimName.TheVariants.{OfTest}
use Rattle.drg_array.specs.declared.test.Test.TheVariants as test
use Rattle.drg_derivation.specs.Reading.{after_byte}
use Rattle.drg_derivation.specs.Words.{word_text, second_text, takes_name}
use Rattle.drg_derivation.specs.WordReading.{named, word_part, rest_part, name_named, second_at, kind_word, kind_named, other_word, word_of, word_named, word_at, name_at}
use Rattle.drg_derivation.specs.declared.kind.Kind.{Kind}
use Rattle.drg_derivation.specs.declared.kind.Kind.TheVariants as kind
use Rattle.drg_derivation.specs.declared.kind.TheConstants.{KINDS}
use Rattle.drg_derivation.specs.declared.word.Word.{Word}
use Rattle.drg_derivation.specs.declared.word.Word.TheVariants.{Evidence}
use Rattle.drg_derivation.specs.declared.word.TheConstants.{OTHER_WORDS}
use Rattle.drg_derivation.proofs.OptionLaws.{chosen, same_some, bound}
use Rattle.drg_derivation.proofs.IntegerLaws.{after_byte-is}

-- the name at this place isn't the text
pub named-next : {A : Type 0} (name : A → List ℕ) (xs : List A) (i : ℕ) (y : A) (text t : List ℕ) → i < length xs → t ≡ name (get_or xs i y)
    → false ≡ bytes_eq text t → named name (drop (i + 1) xs) text ≡ named name (drop i xs) text
named-next name [] i y text t h is e = absurd (omega (arith, h))
named-next name (x ∷ xs) zero y text t h is e =
    let test : bytes_eq text (name x) ≡ false = ap (λ l. bytes_eq text l) (sym is) ∙ sym e in rw test refl
named-next name (x ∷ xs) (suc i) y text t h is e =
    let next : suc i + 1 ≡ suc (i + 1) = omega arith in
    rw next (named-next name xs i y text t (omega (arith, h)) is e)

parts : (text : List ℕ) → text ≡ word_part text ++ rest_part text
parts [] = refl
parts (c ∷ cs) = by (c == 32) (parts cs)
  where
    by : (b : Bool) → cs ≡ word_part cs ++ rest_part cs → c ∷ cs ≡ cond b [] (c ∷ word_part cs) ++ cond b (c ∷ cs) (rest_part cs)
    by true more = refl
    by false more = ap (λ l. c ∷ l) more

same_bytes : (xs ys : List ℕ) → bytes_eq xs ys ≡ true → xs ≡ ys
same_bytes xs ys e = (bytes_eq-Decides xs ys).0 e

named-is : {A : Type 0} (name : A → List ℕ) (xs : List A) (text : List ℕ) (y : A) → named name xs text ≡ Some y → text ≡ name y
named-is name [] text y e = (let none = e in cc)
named-is name (x ∷ xs) text y e =
    elim (chosen (bytes_eq text (name x)) _ _ _ e) [
      | inl good ↦ same_bytes text (name x) good.0 ∙ ap name (same_some x y good.1)
      | inr other ↦ named-is name xs text y other.1
    ]

word_named-is : (text : List ℕ) (w : Word) → word_named text ≡ Some w → text ≡ word_text w
unfolding word_named kind_named other_word
word_named-is text w e = of (kind_named text) refl e
  where
    of : (k : Option Kind) → kind_named text ≡ k → word_of k (other_word text) ≡ Some w → text ≡ word_text w
    of None is h = named-is word_text OTHER_WORDS text w h
    of (Some k) is h = named-is kind_word KINDS text k is ∙ ap word_text (same_some (Evidence k) w h)

pub word_at-takes : (text : List ℕ) (w : Word) (rest : List ℕ) → word_at text ≡ Some (w, rest) → text ≡ word_text w ++ rest
unfolding word_at
word_at-takes text w rest e =
    let b = bound (word_named (word_part text)) _ _ e in
    let name = word_named-is (word_part text) b.0 b.1 in
    subst (λ (x : Word × List ℕ). text ≡ word_text x.0 ++ x.1) (same_some _ _ b.2) (parts text ∙ ap (λ l. l ++ rest_part text) name)

-- the second word that was read
pub record TakesName (w : Word) (text : List ℕ) (name : Option ClaimName) (rest : List ℕ) : Type 0 where
  pub whole : text ≡ second_text name ++ rest
  pub named : takes_name w ≡ is_some name

second_at-takes : (w : Word) (text : List ℕ) (name : Option ClaimName) (rest : List ℕ) → takes_name w ≡ true → second_at text ≡ Some (name, rest) → TakesName w text name rest
unfolding second_at name_named
second_at-takes w text name rest takes e =
    let after = bound (after_byte 32 text) _ _ e in
    let t = bound (name_named (word_part after.0)) _ _ after.2 in
    let is = named-is name_text claim_names (word_part after.0) t.0 t.1 in
    let whole : text ≡ 32 ∷ (name_text t.0 ++ rest_part after.0) = after_byte-is 32 text after.0 after.1 ∙ ap (λ l. 32 ∷ l) (parts after.0 ∙ ap (λ l. l ++ rest_part after.0) is) in
    subst (λ (x : Option ClaimName × List ℕ). TakesName w text x.0 x.1) (same_some _ _ t.2) (record { whole = whole; named = takes })

pub name_at-takes : (w : Word) (text : List ℕ) (name : Option ClaimName) (rest : List ℕ) → name_at w text ≡ Some (name, rest) → TakesName w text name rest
unfolding name_at
name_at-takes w text name rest e =
    elim (chosen (takes_name w) _ _ _ e) [
      | inl takes ↦ second_at-takes w text name rest takes.0 takes.1
      | inr none ↦ subst (λ (x : Option ClaimName × List ℕ). TakesName w text x.0 x.1) (same_some _ _ none.1) (record { whole = refl; named = none.0 })
    ]

-- nothing, or a space in front
abbrev pub IsSpaced : List ℕ → Type 0
IsSpaced [] = Unit {0}
IsSpaced (c ∷ cs) = c ≡ 32

no_word : (rest : List ℕ) → IsSpaced rest → word_part rest ≡ []
no_word [] s = refl
no_word (c ∷ cs) s = rw s refl

all_rest : (rest : List ℕ) → IsSpaced rest → rest_part rest ≡ rest
all_rest [] s = refl
all_rest (c ∷ cs) s = rw s refl

kind-again : (k : Kind) (rest : List ℕ) → word_part rest ≡ [] → rest_part rest ≡ rest → word_at (kind_word k ++ rest) ≡ Some (Evidence k, rest)
unfolding word_at word_named kind_named
kind-again kind.K rest a b = rw (a, b) refl
kind-again _ rest a b = rw (a, b) refl

pub word_at-again : (w : Word) (rest : List ℕ) → IsSpaced rest → word_at (word_text w ++ rest) ≡ Some (w, rest)
unfolding word_at word_named kind_named other_word
word_at-again (Evidence k) rest s = kind-again k rest (no_word rest s) (all_rest rest s)
word_at-again _ rest s = rw (no_word rest s, all_rest rest s) refl

second-again : (name : ClaimName) (rest : List ℕ) → word_part rest ≡ [] → rest_part rest ≡ rest → second_at (second_text (Some name) ++ rest) ≡ Some (Some name, rest)
unfolding second_at name_named
second-again (OfTest test.First) rest a b = rw (a, b) refl
second-again _ rest a b = rw (a, b) refl

pub name_at-again : (w : Word) (name : Option ClaimName) (rest : List ℕ) → takes_name w ≡ is_some name → IsSpaced rest → name_at w (second_text name ++ rest) ≡ Some (name, rest)
unfolding name_at
name_at-again w None rest takes s = rw takes refl
name_at-again w (Some name) rest takes s = rw takes (second-again name rest (no_word rest s) (all_rest rest s))

name-again : (name : ClaimName) → name_named (name_text name) ≡ Some name
unfolding name_named
name-again (OfTest test.First) = refl
name-again _ = refl

-- what tells the names of claims is that of the definition
pub name_named-by : (o : Option ClaimName) (text : List ℕ) → IfSome o (λ name. name_text name ≡ text) → IfNone o ((name : ClaimName) → name_text name ≡ text → ⊥) → o ≡ name_named text
unfolding name_named
name_named-by (Some name) text is none = sym (name-again name) ∙ ap name_named is
name_named-by None text is none = of (name_named text) refl
  where
    of : (o : Option ClaimName) → name_named text ≡ o → None ≡ name_named text
    of None e = sym e
    of (Some name) e = absurd (none name (sym (named-is name_text claim_names text name e)))
