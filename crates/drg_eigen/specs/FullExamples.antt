-- All factors of the characteristic polynomials of two arrays, and one factor of a third, by hand.
use Rattle.std.specs.Prelude.{◌≡◌, pos, neg_ℤ, List, [], ◌∷◌}
use Rattle.drg_array.specs.Entries.{Entries}
use Rattle.drg_eigen.specs.Characteristic.{characteristic}
use Rattle.drg_eigen.specs.Examples.{petersen, pentagon}
use Rattle.drg_eigen.specs.Factor.{Factor, linear, quadratic, product}
use Rattle.drg_eigen.specs.Spectrum.{AreFactors, IsProduct}

-- (x - 3) (x - 1) (x + 2)
abbrev pub petersen_list : List Factor
petersen_list = linear (pos 3) ∷ linear (pos 1) ∷ linear (neg_ℤ (pos 2)) ∷ []

pub record AllPetersenFactors : Type 0 where
  pub factors : AreFactors 3 (characteristic petersen) petersen_list
  pub whole : IsProduct (characteristic petersen) petersen_list

-- (x - 2) (x² + x - 1)
abbrev pub pentagon_list : List Factor
pentagon_list = linear (pos 2) ∷ quadratic (neg_ℤ (pos 1)) (neg_ℤ (pos 1)) ∷ []

pub record AllPentagonFactors : Type 0 where
  pub factors : AreFactors 2 (characteristic pentagon) pentagon_list
  pub whole : IsProduct (characteristic pentagon) pentagon_list

-- the array of the heptagon, {2,1,1;1,1,1}, with (x - 2) (x³ + x² - 2 x - 1)
abbrev pub heptagon : Entries
heptagon = record { b = 2 ∷ 1 ∷ 1 ∷ []; c = 1 ∷ 1 ∷ 1 ∷ [] }

abbrev pub HeptagonQuotient : Type 0
HeptagonQuotient = product (linear (pos 2) ∷ []) (neg_ℤ (pos 1) ∷ neg_ℤ (pos 2) ∷ pos 1 ∷ pos 1 ∷ []) ≡ characteristic heptagon
