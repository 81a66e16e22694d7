-- Sums of small whole numbers fit 128 bits.
use Rattle.std.proofs.Common.{◌≡◌, ◌+◌, ◌<◌, ◌≤◌, ap, ap₂, ◌∙◌, arith, ℤ, pos, negsuc}
use Rattle.std.specs.Prelude.{◌+ℤ◌, ◌-ℤ◌, unsigned_abs, FitsSigned}
use Rattle.std.proofs.lemmas.Int.{ints, fits_signed_from_abs, to_z-of_z}
use mir.Val.{to_z, of_z}
use mir.Syntax.{w32, w128}
use Rattle.drg_whole.specs.Range.{InRange}

pub small : (s : ℤ) → FitsSigned w32 s → unsigned_abs s ≤ 2147483648
small (pos n) h = (let k : n < 2147483648 = h.sfits in omega arith)
small (negsuc n) h = (let k : n < 2147483648 = h.sfits in omega arith)

-- 1 - s + t and 1 + s + t
module _ (s t a b : ℤ) (h : FitsSigned w32 s) (k : FitsSigned w32 t) (e : to_z w128 (of_z w128 a) ≡ s) (f : to_z w128 (of_z w128 b) ≡ t) where
  less_size : unsigned_abs (pos 1 -ℤ s) ≤ 1 + 2147483648
  less_size = (let p = small s h in omega (arith, ints))

  less_sum_size : unsigned_abs ((pos 1 -ℤ s) +ℤ t) ≤ 1 + 2147483648 + 2147483648
  less_sum_size = (let p = small s h in let q = small t k in omega (arith, ints))

  more_size : unsigned_abs (pos 1 +ℤ s) ≤ 1 + 2147483648
  more_size = (let p = small s h in omega (arith, ints))

  more_sum_size : unsigned_abs ((pos 1 +ℤ s) +ℤ t) ≤ 1 + 2147483648 + 2147483648
  more_sum_size = (let p = small s h in let q = small t k in omega (arith, ints))

  pub less_and_more : to_z w128 (of_z w128 (to_z w128 (of_z w128 (pos 1 -ℤ to_z w128 (of_z w128 a))) +ℤ to_z w128 (of_z w128 b))) ≡ (pos 1 -ℤ s) +ℤ t
  less_and_more =
      ap (λ (z : ℤ). to_z w128 (of_z w128 z))
      (ap₂ (λ (x y : ℤ). x +ℤ y)
      (ap (λ (z : ℤ). to_z w128 (of_z w128 (pos 1 -ℤ z))) e ∙ to_z-of_z w128 (pos 1 -ℤ s) (fits_signed_from_abs w128 _ (omega (arith, less_size)))) f)
      ∙ to_z-of_z w128 ((pos 1 -ℤ s) +ℤ t) (fits_signed_from_abs w128 _ (omega (arith, less_sum_size)))

  pub more_and_more : to_z w128 (of_z w128 (to_z w128 (of_z w128 (pos 1 +ℤ to_z w128 (of_z w128 a))) +ℤ to_z w128 (of_z w128 b))) ≡ (pos 1 +ℤ s) +ℤ t
  more_and_more =
      ap (λ (z : ℤ). to_z w128 (of_z w128 z))
      (ap₂ (λ (x y : ℤ). x +ℤ y)
      (ap (λ (z : ℤ). to_z w128 (of_z w128 (pos 1 +ℤ z))) e ∙ to_z-of_z w128 (pos 1 +ℤ s) (fits_signed_from_abs w128 _ (omega (arith, more_size)))) f)
      ∙ to_z-of_z w128 ((pos 1 +ℤ s) +ℤ t) (fits_signed_from_abs w128 _ (omega (arith, more_sum_size)))

  pub less_in_range : InRange ((pos 1 -ℤ s) +ℤ t)
  less_in_range = omega (arith, less_sum_size)

  pub more_in_range : InRange ((pos 1 +ℤ s) +ℤ t)
  more_in_range = omega (arith, more_sum_size)
