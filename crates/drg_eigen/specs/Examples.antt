-- The characteristic polynomials of two arrays, and their factors, by hand.
use Rattle.std.specs.Prelude.{◌≡◌, pos, neg_ℤ, [], ◌∷◌}
use Rattle.drg_array.specs.Entries.{Entries}
use Rattle.drg_eigen.specs.Characteristic.{characteristic}
use Rattle.drg_eigen.specs.Factor.{linear, quadratic, IsCandidate, Divides}

-- the arrays of the Petersen graph, {3,2;1,1}, and of the pentagon, {2,1;1,1}
abbrev pub petersen : Entries
petersen = record { b = 3 ∷ 2 ∷ []; c = 1 ∷ 1 ∷ [] }

abbrev pub pentagon : Entries
pentagon = record { b = 2 ∷ 1 ∷ []; c = 1 ∷ 1 ∷ [] }

-- x³ - 2 x² - 5 x + 6 = (x - 3) (x - 1) (x + 2)
pub record PetersenFactors : Type 0 where
  pub coefficients : characteristic petersen ≡ pos 6 ∷ neg_ℤ (pos 5) ∷ neg_ℤ (pos 2) ∷ pos 1 ∷ []
  pub valency : Divides (linear (pos 3)) (characteristic petersen)
  pub second : Divides (linear (pos 1)) (characteristic petersen)
  pub least : Divides (linear (neg_ℤ (pos 2))) (characteristic petersen)

-- x³ - x² - 3 x + 2 = (x - 2) (x² + x - 1), and x² + x - 1 is a candidate
pub record PentagonFactors : Type 0 where
  pub coefficients : characteristic pentagon ≡ pos 2 ∷ neg_ℤ (pos 3) ∷ neg_ℤ (pos 1) ∷ pos 1 ∷ []
  pub valency : Divides (linear (pos 2)) (characteristic pentagon)
  pub golden : Divides (quadratic (neg_ℤ (pos 1)) (neg_ℤ (pos 1))) (characteristic pentagon)
  pub candidate : IsCandidate 2 (quadratic (neg_ℤ (pos 1)) (neg_ℤ (pos 1)))
