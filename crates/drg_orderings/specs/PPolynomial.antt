-- P-polynomial orderings of intersection numbers (Brouwer, Cohen and Neumaier 1989, section 2.7).
use Rattle.std.specs.Prelude.{◌≡◌, ℕ, List}
use Rattle.drg_intersection.specs.Numbers.{Numbers, p_at}
use Rattle.drg_orderings.specs.Orderings.{IsOrdering}

-- The intersection number p^h_ij is 0.
abbrev pub IsZeroNumber : Numbers → ℕ → ℕ → ℕ → Type 0
IsZeroNumber numbers h i j = p_at numbers h i j ≡ 0

-- The list is r_1, .., r_d of a P-polynomial ordering.
abbrev pub IsPPolynomialOrdering : Numbers → List ℕ → Type 0
IsPPolynomialOrdering numbers order = IsOrdering numbers.d (IsZeroNumber numbers) order
