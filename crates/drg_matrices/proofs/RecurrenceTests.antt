-- The recurrences of two rows with the same values fit or don't alike.
use Rattle.std.proofs.Common.{◌≡◌, ℕ, zero, suc, ◌<◌, Bool, true, false, refl, ap, ap₂, ◌∙◌, arith, inl, inr}
use Rattle.std.specs.Prelude.{nat_lt, ◌&&◌}
use Rattle.std.proofs.lemmas.Bool.{cases_lt}
use Rattle.std.proofs.lemmas.Bool.Decides.{nat_tests}
use Rattle.drg_array.specs.Entries.{Entries, diameter}
use Rattle.drg_fraction.specs.Operations.{Operations}
use Rattle.drg_matrices.specs.Values.{b_value, c_value, a_value}
use Rattle.drg_matrices.specs.Formulas.{first_terms}
use Rattle.drg_matrices.specs.Fits.{first_terms_fit, last_term_fits, recurrence_fits}

module _ {V : Type 0} (o : Operations V) (a : Entries) (p q : ℕ → V) (same : (l : ℕ) → l < suc (diameter a) → p l ≡ q l) where
  same_first_terms : (j : ℕ) → j < suc (diameter a) → first_terms o a p j ≡ first_terms o a q j
  same_first_terms zero h = ap (o.times (a_value o a 0)) (same 0 h)
  same_first_terms (suc j) h = ap₂ (λ (x y : V). o.plus (o.times (b_value o a j) x) (o.times (a_value o a (suc j)) y)) (same j (omega arith)) (same (suc j) h)

  same_first_fit : (j : ℕ) → j < suc (diameter a) → first_terms_fit o a p j ≡ first_terms_fit o a q j
  same_first_fit zero h = ap (o.product_fits (a_value o a 0)) (same 0 h)
  same_first_fit (suc j) h =
      ap₂ (λ (x y : V). o.product_fits (b_value o a j) x && o.product_fits (a_value o a (suc j)) y && o.sum_fits (o.times (b_value o a j) x) (o.times (a_value o a (suc j)) y)) (same j (omega arith)) (same (suc j) h)

  same_last_fit : (j : ℕ) → j < suc (diameter a) → last_term_fits o a p j ≡ last_term_fits o a q j
  same_last_fit j h =
      elim (cases_lt j (diameter a)) [
        | inl less ↦ (let test : nat_lt j (diameter a) ≡ true = grind (arith, nat_tests) in
            rw test (ap₂ (λ (x y : V). o.product_fits (c_value o a (suc j)) x && o.sum_fits y (o.times (c_value o a (suc j)) x)) (same (suc j) (omega arith)) (same_first_terms j h)))
        | inr more ↦ (let test : nat_lt j (diameter a) ≡ false = grind (arith, nat_tests) in rw test refl)
      ]

  pub same_recurrence : (x : V) (j : ℕ) → j < suc (diameter a) → recurrence_fits o a x p j ≡ recurrence_fits o a x q j
  same_recurrence x j h =
      ap (λ z. o.product_fits x z && first_terms_fit o a p j && last_term_fits o a p j) (same j h)
      ∙ ap₂ (λ (s t : Bool). o.product_fits x (q j) && s && t) (same_first_fit j h) (same_last_fit j h)
