-- The formula of a coefficient, from what the code reads of the array and of the two polynomials before.
use Rattle.std.proofs.Common.{◌≡◌, ℕ, suc, Bool, true, false, ◌&&◌, refl, subst, List}
use Rattle.std.specs.Prelude.{ℤ, pos, ◌*ℤ◌, Result, Ok, Err}
use Rattle.drg_algebra.proofs.Tests.{and-in}
use Rattle.drg_array.specs.Entries.{Entries, a_at, b_at, c_at}
use Rattle.drg_eigen.specs.Characteristic.{weight_at}
use Rattle.drg_eigen.specs.Fits.{coefficient, coefficient_before, first_difference, next_coefficient}
use Rattle.drg_whole.specs.Range.{Gives, in_range}
use Rattle.drg_whole.specs.Whole.{value_of}
use Rattle.drg_whole.specs.Difference.{less_product, less_product_fits}
use Rattle.drg_whole.specs.declared.whole.Whole.{Whole}
use Rattle.drg_whole.specs.declared.whole.Wide.{Wide}
use Rattle.drg_eigen.specs.Work.{next_fits}

left-false : (a b : Bool) → a ≡ false → (a && b) ≡ false
left-false true b e = (let h = e in cc)
left-false false b e = refl

right-false : (a b : Bool) → b ≡ false → (a && b) ≡ false
right-false true b e = e
right-false false b e = refl

-- a family over three numbers, at equal numbers
at_equal : (P : ℤ → ℤ → ℤ → Type 0) (x y z x' y' z' : ℤ) → x ≡ x' → y ≡ y' → z ≡ z' → P x y z → P x' y' z'
at_equal P x y z x' y' z' ex ey ez h =
    subst (λ (n : ℤ). P x' y' n) ez (subst (λ (n : ℤ). P x' n z) ey (subst (λ (n : ℤ). P n y z) ex h))

module _ (a : Entries) (j : ℕ) (g f : List ℤ) (t : ℕ) where
  abbrev first_test : Bool
  first_test = less_product_fits (coefficient_before f t) (a_at a (suc j)) (coefficient f t)

  abbrev last_test : Bool
  last_test = less_product_fits (first_difference a j f t) (weight_at a (suc j)) (coefficient g t)

  pub first_fits : (x y z : ℤ) (v : Bool) → x ≡ coefficient_before f t → y ≡ a_at a (suc j) → z ≡ coefficient f t → less_product_fits x y z ≡ v → first_test ≡ v
  first_fits x y z v = at_equal (λ (x y z : ℤ). less_product_fits x y z ≡ v) x y z (coefficient_before f t) (a_at a (suc j)) (coefficient f t)

  pub first_is : (u x y z : ℤ) → x ≡ coefficient_before f t → y ≡ a_at a (suc j) → z ≡ coefficient f t → u ≡ less_product x y z → u ≡ first_difference a j f t
  first_is u x y z = at_equal (λ (x y z : ℤ). u ≡ less_product x y z) x y z (coefficient_before f t) (a_at a (suc j)) (coefficient f t)

  pub weight_fits : (b c : ℤ) (v : Bool) → b ≡ pos (b_at a j) → c ≡ pos (c_at a (suc j)) → in_range (b *ℤ c) ≡ v → in_range (weight_at a (suc j)) ≡ v
  weight_fits b c v eb ec h = subst (λ (n : ℤ). in_range (pos (b_at a j) *ℤ n) ≡ v) ec (subst (λ (n : ℤ). in_range (n *ℤ c) ≡ v) eb h)

  pub weight_is : (w b c : ℤ) → b ≡ pos (b_at a j) → c ≡ pos (c_at a (suc j)) → w ≡ b *ℤ c → w ≡ weight_at a (suc j)
  weight_is w b c eb ec h = subst (λ (n : ℤ). w ≡ pos (b_at a j) *ℤ n) ec (subst (λ (n : ℤ). w ≡ n *ℤ c) eb h)

  pub wide_first : first_test ≡ false → next_fits a j g f t ≡ false
  wide_first h = left-false first_test (in_range (weight_at a (suc j)) && last_test) h

  pub wide_weight : in_range (weight_at a (suc j)) ≡ false → next_fits a j g f t ≡ false
  wide_weight h = right-false first_test (in_range (weight_at a (suc j)) && last_test) (left-false (in_range (weight_at a (suc j))) last_test h)

  by_cases : (r : Result Whole Wide) → first_test ≡ true → in_range (weight_at a (suc j)) ≡ true → Gives value_of r last_test (next_coefficient a j g f t)
      → Gives value_of r (next_fits a j g f t) (next_coefficient a j g f t)
  by_cases (Ok v) h k l = (and-in first_test (in_range (weight_at a (suc j)) && last_test) h (and-in (in_range (weight_at a (suc j))) last_test k l.0), l.1)
  by_cases (Err e) h k l = right-false first_test (in_range (weight_at a (suc j)) && last_test) (right-false (in_range (weight_at a (suc j))) last_test l)

  pub gives : (r : Result Whole Wide) (d w k : ℤ) → d ≡ first_difference a j f t → w ≡ weight_at a (suc j) → k ≡ coefficient g t
      → first_test ≡ true → in_range (weight_at a (suc j)) ≡ true → Gives value_of r (less_product_fits d w k) (less_product d w k)
      → Gives value_of r (next_fits a j g f t) (next_coefficient a j g f t)
  gives r d w k ed ew ek h l m =
      by_cases r h l
      (at_equal (λ (x y z : ℤ). Gives value_of r (less_product_fits x y z) (less_product x y z)) d w k (first_difference a j f t) (weight_at a (suc j)) (coefficient g t) ed ew ek m)
