-- Two characteristic polynomials and their factors.
use Rattle.std.proofs.Common.{◌≡◌, ℕ, ℤ, zero, suc, ◌*◌, refl, arith, pos, negsuc, [], ◌∷◌}
use Rattle.std.specs.Prelude.{◌*ℤ◌, neg_ℤ}
use Rattle.std.proofs.lemmas.Int.{ints}
use Rattle.drg_eigen.specs.Examples.{PetersenFactors, PentagonFactors}

pub petersen_factors : PetersenFactors
petersen_factors = record {
  coefficients = refl;
  valency = (neg_ℤ (pos 2) ∷ pos 1 ∷ pos 1 ∷ [], refl);
  second = (neg_ℤ (pos 6) ∷ neg_ℤ (pos 1) ∷ pos 1 ∷ [], refl);
  least = (pos 3 ∷ neg_ℤ (pos 4) ∷ pos 1 ∷ [], refl);
}

no_root_of_five : (n : ℕ) → n * n ≡ 5 → ⊥
no_root_of_five zero e = omega arith
no_root_of_five (suc zero) e = omega arith
no_root_of_five (suc (suc zero)) e = omega arith
no_root_of_five (suc (suc (suc n))) e = omega arith

pub not_five : (m : ℤ) → m *ℤ m ≡ pos 5 → ⊥
not_five (pos n) e = no_root_of_five n (omega (arith, ints))
not_five (negsuc n) e = no_root_of_five (suc n) (omega (arith, ints))

pub pentagon_factors : PentagonFactors
pentagon_factors = record {
  coefficients = refl;
  valency = (neg_ℤ (pos 1) ∷ pos 1 ∷ pos 1 ∷ [], refl);
  golden = (neg_ℤ (pos 2) ∷ pos 1 ∷ [], refl);
  candidate = (not_five, (omega arith, omega arith));
}
