-- The numbers of some arrays, counted by hand in their graphs, and two arrays whose numbers fail a test.
use Rattle.std.specs.Prelude.{◌≡◌, pos, [], ◌∷◌}
use Rattle.drg_algebra.specs.Rational.{whole}
use Rattle.drg_array.specs.Entries.{Entries}
use Rattle.drg_array.specs.Numbers.{size, vertex_count, IsIntersectionNumber}
use Rattle.drg_array.specs.Conditions.{CountsFail}
use Rattle.drg_array.specs.declared.claim.Claim.TheVariants.{Size, Intersect}

-- the array of the Petersen graph, {3,2;1,1}
abbrev pub petersen : Entries
petersen = record { b = 3 ∷ 2 ∷ []; c = 1 ∷ 1 ∷ [] }

-- ten vertices, of which 1, 3 and 6 are at the distances 0, 1 and 2 of each
pub record PetersenSizes : Type 0 where
  pub first : size petersen 1 ≡ whole (pos 3)
  pub second : size petersen 2 ≡ whole (pos 6)
  pub vertices : vertex_count petersen ≡ whole (pos 10)

-- no triangles, and one common neighbour of two vertices at distance 2
pub record PetersenNumbers : Type 0 where
  pub triangles : IsIntersectionNumber petersen 1 1 1 (whole (pos 0))
  pub far_from_neighbours : IsIntersectionNumber petersen 1 2 2 (whole (pos 4))
  pub common : IsIntersectionNumber petersen 2 1 1 (whole (pos 1))
  pub far_from_both : IsIntersectionNumber petersen 2 2 2 (whole (pos 3))

-- 20 / 3 isn't whole
abbrev pub SizeOfFiveFour : Type 0
SizeOfFiveFour = CountsFail (record { b = 5 ∷ 4 ∷ []; c = 1 ∷ 3 ∷ [] }) (Size 2)

-- p^2_22 of {4,1;1,2} is -2 / 2
abbrev pub NumberOfFourOne : Type 0
NumberOfFourOne = CountsFail (record { b = 4 ∷ 1 ∷ []; c = 1 ∷ 2 ∷ [] }) (Intersect 2 2 2)
