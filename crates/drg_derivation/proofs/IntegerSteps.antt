-- The numbers of a text, one after the other.
use Rattle.std.proofs.Common.{◌≡◌, ℕ, suc, ◌+◌, ◌<◌, List, [], ◌∷◌, length, None, Some, refl, sym, ap, ◌∙◌, arith, ℤ}
use Rattle.std.specs.Prelude.{Option, ◌==◌, true, false, unwrap_or}
use Rattle.std.proofs.lemmas.List.{nil_from_length}
use Rattle.std.proofs.lemmas.Bool.Decides.{nat_tests}
use Rattle.std.specs.Option.{option_map}
use Rattle.drg_derivation.specs.Reading.{spaced_at, integers_at, integers_of, integers_in, AreRead, ◌>>=◌}
use Rattle.drg_derivation.proofs.OptionLaws.{same_some, bound}
use Rattle.drg_derivation.proofs.IntegerLaws.{spaced_at-less, integers_at-room}

pub spaced_at-nil : spaced_at [] ≡ None
unfolding spaced_at
spaced_at-nil = refl

pub integers_of-nil : integers_of [] ≡ Some []
unfolding integers_of integers_at
integers_of-nil = refl

pub integers_of-step : (bytes : List ℕ) (z : ℤ) (more : List ℕ) → spaced_at bytes ≡ Some (z, more)
    → integers_of bytes ≡ (integers_of more >>= λ zs. Some (z ∷ zs))
unfolding integers_of integers_at
integers_of-step [] z more e = (let none = spaced_at-nil in cc)
integers_of-step (c ∷ cs) z more e =
    let less = spaced_at-less (c ∷ cs) (z, more) e in
    rw (e, integers_at-room (length cs) (length more) more (omega arith) (omega arith)) refl

pub integers_of-none : (bytes : List ℕ) → 0 < length bytes → spaced_at bytes ≡ None → integers_of bytes ≡ None
unfolding integers_of integers_at
integers_of-none [] some e = absurd (omega (arith, some))
integers_of-none (c ∷ cs) some e = rw e refl

-- the first number of those that the text has, and the others
pub integers_of-first : (bytes : List ℕ) (z : ℤ) (more : List ℕ) (zs : List ℤ) → spaced_at bytes ≡ Some (z, more) → integers_of bytes ≡ Some zs
    → (others : List ℤ) × (zs ≡ z ∷ others) × (integers_of more ≡ Some others)
integers_of-first bytes z more zs e all =
    let b = bound (integers_of more) (λ (l : List ℤ). Some (z ∷ l)) zs (sym (integers_of-step bytes z more e) ∙ all) in
    (b.0, sym (same_some (z ∷ b.0) zs b.2), b.1)

pub integers_of-last : (bytes : List ℕ) (zs : List ℤ) → spaced_at bytes ≡ None → integers_of bytes ≡ Some zs → zs ≡ []
integers_of-last [] zs e all = sym (same_some [] zs (sym integers_of-nil ∙ all))
integers_of-last (c ∷ cs) zs e all = (let none = integers_of-none (c ∷ cs) (omega arith) e in cc)

-- what was read at the front of a text of numbers, and the text that is left
pub record IsFirstRead (bytes more : List ℕ) (z : ℤ) : Type 0 where
  pub first : integers_in bytes ≡ z ∷ integers_in more
  pub left : AreRead more

pub first_read : (bytes more : List ℕ) (z : ℤ) → spaced_at bytes ≡ Some (z, more) → AreRead bytes → IsFirstRead bytes more z
first_read bytes more z e read =
    let f = integers_of-first bytes z more (integers_in bytes) e read in
    let same : integers_in more ≡ f.0 = ap (λ (o : Option (List ℤ)). unwrap_or o []) f.2 in
    record { first = f.1 ∙ ap (λ (l : List ℤ). z ∷ l) (sym same); left = f.2 ∙ ap (λ (l : List ℤ). Some l) (sym same) }

pub all_read : (bytes : List ℕ) → spaced_at bytes ≡ None → AreRead bytes → integers_in bytes ≡ []
all_read bytes e read = integers_of-last bytes (integers_in bytes) e read

pub count-more : (k : ℕ) (z : ℤ) (o : Option (List ℤ)) → option_map (λ zs. (k + 1) + length zs) o ≡ option_map (λ zs. k + length zs) (o >>= λ zs. Some (z ∷ zs))
count-more k z None = refl
count-more k z (Some zs) = (let same : (k + 1) + length zs ≡ k + suc (length zs) = omega arith in rw same refl)

some-bytes : (bytes : List ℕ) → (length bytes == 0) ≡ false → 0 < length bytes
some-bytes bytes e = grind (arith, nat_tests)

no-bytes : (bytes : List ℕ) → (length bytes == 0) ≡ true → bytes ≡ []
no-bytes bytes e = nil_from_length bytes (grind (arith, nat_tests))

-- a text that stops before its end has no count
pub count-none : (k : ℕ) (bytes : List ℕ) (all : Option ℕ) → (length bytes == 0) ≡ false → spaced_at bytes ≡ None
    → option_map (λ zs. k + length zs) (integers_of bytes) ≡ all → None ≡ all
count-none k bytes all some e read =
    ap (λ (o : Option (List ℤ)). option_map (λ zs. k + length zs) o) (sym (integers_of-none bytes (some-bytes bytes some) e)) ∙ read

pub count-all : (k : ℕ) (bytes : List ℕ) (all : Option ℕ) → (length bytes == 0) ≡ true
    → option_map (λ zs. k + length zs) (integers_of bytes) ≡ all → Some k ≡ all
count-all k bytes all none read =
    let is : integers_of bytes ≡ Some [] = rw (no-bytes bytes none) integers_of-nil in
    let same : k ≡ k + 0 = omega arith in
    ap (λ n. Some n) same ∙ (ap (λ (o : Option (List ℤ)). option_map (λ zs. k + length zs) o) (sym is) ∙ read)
