-- What is known of the equations and terms that a loop has passed.
use Rattle.std.proofs.Common.{◌≡◌, ℕ, zero, suc, ◌+◌, ◌<◌, List, [], ◌∷◌, length, refl, subst, sym, arith, inl, inr}
use Rattle.std.specs.Prelude.{slice_index_or}
use Rattle.std.proofs.lemmas.Bool.{cases_eq}

-- it holds of the first n
abbrev pub HoldsBefore : {X : Type 0} → (X → Type 0) → List X → ℕ → Type 0
HoldsBefore {X} P xs n = (k : ℕ) (d : X) → k < n → k < length xs → P (slice_index_or xs k d)

pub same_at : {X : Type 0} (xs : List X) (n : ℕ) (a b : X) → n < length xs → slice_index_or xs n a ≡ slice_index_or xs n b
same_at [] n a b h = absurd (omega (arith, h))
same_at (x ∷ xs) zero a b h = refl
same_at (x ∷ xs) (suc n) a b h = same_at xs n a b (omega (arith, h))

pub one_more : {X : Type 0} (P : X → Type 0) (xs : List X) (n : ℕ) (a : X) → HoldsBefore P xs n → P (slice_index_or xs n a) → HoldsBefore P xs (n + 1)
one_more {X} P xs n a h p k d l m =
    elim (cases_eq k n) [
      | inl same ↦ (let Q : ℕ → Type 0 = λ j. P (slice_index_or xs j d) in
          let within : n < length xs = omega (arith, m, same) in
          subst Q (sym same) (subst P (same_at xs n a d within) p))
      | inr apart ↦ h k d (omega (arith, l, apart)) m
    ]
