-- Laws of P-polynomial orderings.
use Rattle.std.specs.Prelude.{List, ℕ, ◌≡◌}
use Rattle.std.specs.List.{range_with_len}
use Rattle.drg_array.specs.Entries.{Entries, IsArray}
use Rattle.drg_intersection.specs.Numbers.{Numbers, AreNumbersOf}
use Rattle.drg_orderings.specs.Orderings.{index_at}
use Rattle.drg_orderings.specs.PPolynomial.{IsPPolynomialOrdering}

-- The natural order 1, .., d is a P-polynomial ordering of the numbers of each array.
abbrev pub NaturalOrderIsOne : Type 0
NaturalOrderIsOne = (a : Entries) (numbers : Numbers) → IsArray a → AreNumbersOf a numbers
    → IsPPolynomialOrdering numbers (range_with_len 1 numbers.d)

-- The first index of an ordering forces the rest.
abbrev pub FirstForcesRest : Type 0
FirstForcesRest = (numbers : Numbers) (order other : List ℕ) → IsPPolynomialOrdering numbers order → IsPPolynomialOrdering numbers other
    → index_at order 1 ≡ index_at other 1 → order ≡ other
