-- Small cases by hand: no definition here is empty, and each means what its name says.
use Rattle.std.specs.Prelude.{◌≡◌, ℕ, zero, suc, pos, Bool, not, ◌==◌}
use Rattle.drg_algebra.specs.Ring.{CommutativeRing}
use Rattle.drg_algebra.specs.Rational.{ℚ, whole, minus, rational_numbers}
use Rattle.drg_algebra.specs.Ratio.{ratio}
use Rattle.drg_algebra.specs.Root.{IsSquarefree}
use Rattle.drg_algebra.specs.Pairs.{Pair, root_values}
use Rattle.drg_algebra.specs.Order.{IsPositive}
use Rattle.drg_algebra.specs.Tables.{IsScalar}
use Rattle.drg_algebra.specs.Sums.{below, pair_count, triangles}
use Rattle.drg_algebra.specs.RingLaws.{twice, square}

-- (x + y)² = x² + 2 x y + y²
abbrev pub SquareOfSum : CommutativeRing → Type 0
SquareOfSum r = (x y : r.Of) → square r (r.plus x y) ≡ r.plus (r.plus (square r x) (twice r (r.times x y))) (square r y)

-- 5 is squarefree
abbrev pub FiveIsSquarefree : Type 0
FiveIsSquarefree = IsSquarefree 5

-- 1/2 + 1/2 √5, the golden ratio
abbrev pub golden : Pair ℚ
golden = record { a = ratio (pos 1) (pos 2); b = ratio (pos 1) (pos 2) }

-- its square is itself and 1
abbrev pub GoldenRatio : Type 0
GoldenRatio = square (root_values 5) golden ≡ (root_values 5).plus golden (root_values 5).unit

-- √2 - 1 is positive, though its rational part is not
abbrev pub RootOfTwoIsAboveOne : Type 0
RootOfTwoIsAboveOne = IsPositive 2 (record { a = minus (whole (pos 1)); b = whole (pos 1) })

-- 1 1
-- 1 -1
abbrev pub two_by_two : ℕ → ℕ → ℚ
two_by_two zero j = whole (pos 1)
two_by_two (suc i) zero = whole (pos 1)
two_by_two (suc i) (suc j) = minus (whole (pos 1))

-- its square is 2 I
abbrev pub SquareOfTable : Type 0
SquareOfTable = IsScalar rational_numbers 2 two_by_two two_by_two (whole (pos 2))

-- two numbers differ
abbrev pub differ : ℕ → ℕ → Bool
differ x y = not (x == y)

-- the counts of three points
abbrev pub ThreePoints : Type 0
ThreePoints = (pair_count differ (below 3) ≡ 6) × (triangles differ (below 3) ≡ 6)
