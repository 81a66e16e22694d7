-- Laws of order: whole numbers, rationals and values are ordered, and what holds in each ordered ring.
use Rattle.std.specs.Prelude.{◌≡◌, ℕ, ℤ, pos, suc, ◌<◌, ◌*ℤ◌, ◌<ℤ◌, ◌↔◌}
use Rattle.std.proofs.Common.{◌⊎◌}
use Rattle.drg_algebra.specs.Ring.{CommutativeRing}
use Rattle.drg_algebra.specs.Rational.{ℚ, whole}
use Rattle.drg_algebra.specs.Ratio.{ratio}
use Rattle.drg_algebra.specs.Pairs.{Pair, whole_numbers, rational_numbers, root_values}
use Rattle.drg_algebra.specs.Root.{IsSquarefree}
use Rattle.drg_algebra.specs.RingLaws.{embedded}
use Rattle.drg_algebra.specs.Tables.{sum_below}
use Rattle.drg_algebra.specs.Order.{Less, IsNotNegative, IsWholeAbove, IsAbove, IsPositive, AboveRoot}

-- Names of ordered rings, over which a clause ranges.
pub data OrderedKind : Type 0 where
  wholes : OrderedKind
  fractions : OrderedKind
  quadratics : (root : ℕ) → IsSquarefree root → 1 < root → OrderedKind

abbrev pub ordered_ring : OrderedKind → CommutativeRing
ordered_ring wholes = whole_numbers
ordered_ring fractions = rational_numbers
ordered_ring (quadratics root free big) = root_values root

abbrev pub IsAboveNil : (k : OrderedKind) → (ordered_ring k).Of → Type 0
IsAboveNil wholes = IsWholeAbove
IsAboveNil fractions = IsAbove
IsAboveNil (quadratics root free big) = IsPositive root

-- No member and its negative are both above nil; squares of members other than nil are above it, and weighted squares are
-- not negative; doubles of different members differ; a product is nil only where a factor is; a sum of members that are not
-- negative is above nil where its first one is.
pub record OrderedRingLaws (r : CommutativeRing) (Above : r.Of → Type 0) : Type 0 where
  pub one_sign : (x : r.Of) → Above x → ¬ (Above (r.minus x))
  pub square : (x : r.Of) → ¬ (x ≡ r.nil) → Above (r.times x x)
  pub weighted_square : (k x : r.Of) → IsNotNegative r Above k → IsNotNegative r Above (r.times k (r.times x x))
  pub halves : (x y : r.Of) → r.plus x x ≡ r.plus y y → x ≡ y
  pub domain : (x y : r.Of) → r.times x y ≡ r.nil → (x ≡ r.nil) ⊎ (y ≡ r.nil)
  pub sum : (n : ℕ) (f : ℕ → r.Of) → Above (f 0) → ((j : ℕ) → j < n → IsNotNegative r Above (f (suc j)))
      → Above (sum_below r (suc n) f)

-- for a positive b, a / b is positive exactly where a is
abbrev pub SignOfRatio : Type 0
SignOfRatio = (a b : ℤ) → pos 0 <ℤ b → IsAbove (ratio a b) ↔ (pos 0 <ℤ a)

-- a / b < c / d exactly where a d < c b
abbrev pub LessByCrossProducts : Type 0
LessByCrossProducts = (a b c d : ℤ) → pos 0 <ℤ b → pos 0 <ℤ d
    → Less rational_numbers IsAbove (ratio a b) (ratio c d) ↔ ((a *ℤ d) <ℤ (c *ℤ b))

-- a whole number is positive among the rationals exactly where it is
abbrev pub SignOfWhole : Type 0
SignOfWhole = (n : ℤ) → IsAbove (whole n) ↔ (pos 0 <ℤ n)

-- a whole number is positive among the values exactly where it is
abbrev pub SignOfEmbedded : Type 0
SignOfEmbedded = (root : ℕ) (n : ℤ) → IsPositive root (embedded n) ↔ (pos 0 <ℤ n)

-- the three cases of the parts are the two cases of a² - D b²
abbrev pub TwoCasesAreThree : Type 0
TwoCasesAreThree = (root : ℕ) → IsSquarefree root → 1 < root → (z : Pair ℚ)
    → IsPositive root z ↔ AboveRoot rational_numbers IsAbove (whole (pos root)) z
