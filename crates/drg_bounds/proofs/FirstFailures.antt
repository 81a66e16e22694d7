-- The first multiplicity that isn't a positive whole number.
use Rattle.std.proofs.Common.{◌≡◌, ℕ, suc, ◌<◌, ◌≤◌, sym, ap, ◌∙◌, subst, arith, ◌⊎◌, inl, inr}
use Rattle.std.specs.Prelude.{ℤ}
use Rattle.std.proofs.lemmas.Bool.{cases_lt}
use Rattle.drg_algebra.specs.Rational.{whole}
use Rattle.drg_algebra.proofs.WholeParts.{same_whole}
use Rattle.drg_array.specs.ClaimOrder.{ComesBefore}
use Rattle.drg_array.specs.declared.claim.Claim.{Claim}
use Rattle.drg_array.specs.declared.claim.Claim.TheVariants.{Mult}
use Rattle.drg_fraction.specs.Operations.{Operations}
use Rattle.drg_fraction.specs.Field.{IsExactField}
use Rattle.drg_matrix.specs.Frame.{multiplicity}
use Rattle.drg_bounds.specs.Multiplicities.{IsPositiveWhole, FailsMult}

-- a value is one whole number at most
pub same_number : {V : Type 0} {o : Operations V} {root : ℕ} → IsExactField o root → (m n : ℤ) → o.rational (whole m) ≡ o.rational (whole n) → m ≡ n
same_number {o = o} laws m n e =
    same_whole m n (sym (laws.rational_part_of_rational (whole m)) ∙ ap o.rational_part e ∙ laws.rational_part_of_rational (whole n))

module _ {V : Type 0} (o : Operations V) (d : ℕ) (q : ℕ → ℕ → V) where
  -- the multiplicities m_1 to m_(i-1) are positive and whole
  abbrev pub HoldBefore : ℕ → Type 0
  HoldBefore i = (j : ℕ) → 1 ≤ j → j < i → IsPositiveWhole o (multiplicity q j)

  pub hold_next : (i l : ℕ) → l ≡ suc i → HoldBefore i → IsPositiveWhole o (multiplicity q i) → HoldBefore l
  hold_next i l e before here j h k =
      elim (same_or_before j i (omega arith)) [
        | inl less ↦ before j h less
        | inr same ↦ subst (λ (m : ℕ). IsPositiveWhole o (multiplicity q m)) (sym same) here
      ]
    where
      same_or_before : (j i : ℕ) → j < suc i → (j < i) ⊎ (j ≡ i)
      same_or_before j i h =
          elim (cases_lt j i) [
            | inl less ↦ inl less
            | inr more ↦ inr (omega arith)
          ]

  -- no claim that comes before that of i fails
  pub none_earlier : (i : ℕ) → HoldBefore i → (earlier : Claim) → ComesBefore earlier (Mult i) → FailsMult o d q earlier → ⊥
  none_earlier i before (Mult j) (inl less) fails = absurd (omega arith)
  none_earlier i before (Mult j) (inr (e, inl less)) fails = fails.2 (before j fails.0 less)
  none_earlier i before (Mult j) (inr (e, inr (same, none))) fails = absurd none
  none_earlier i before earlier h fails = absurd fails

  pub none_fails : (l : ℕ) → l ≡ suc d → HoldBefore l → (claim : Claim) → FailsMult o d q claim → ⊥
  none_fails l e before (Mult j) fails = let inside = fails.1 in fails.2 (before j fails.0 (omega arith))
  none_fails l e before claim fails = absurd fails
