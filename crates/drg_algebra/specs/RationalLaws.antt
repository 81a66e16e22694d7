-- Laws of rationals: ratios of whole numbers, and the one reduced pair of each rational.
use Rattle.std.specs.Prelude.{◌≡◌, ℤ, pos, ◌+ℤ◌, ◌*ℤ◌, neg_ℤ, ◌<ℤ◌, ◌↔◌}
use Rattle.drg_algebra.specs.Rational.{ℚ, whole, plus, times, minus}
use Rattle.drg_algebra.specs.Ratio.{ratio}
use Rattle.drg_algebra.specs.Reduced.{common, top, bottom, numerator, denominator}
use Rattle.drg_algebra.specs.Fields.{invert}

-- ---- ratios
-- a / b = c / d exactly where a d = c b
abbrev pub EqualByCrossProducts : Type 0
EqualByCrossProducts = (a b c d : ℤ) → pos 0 <ℤ b → pos 0 <ℤ d → (ratio a b ≡ ratio c d) ↔ (a *ℤ d ≡ c *ℤ b)

-- a / b + c / d = (a d + c b) / (b d)
abbrev pub SumOfRatios : Type 0
SumOfRatios = (a b c d : ℤ) → pos 0 <ℤ b → pos 0 <ℤ d → plus (ratio a b) (ratio c d) ≡ ratio (a *ℤ d +ℤ c *ℤ b) (b *ℤ d)

-- (a / b) (c / d) = (a c) / (b d)
abbrev pub ProductOfRatios : Type 0
ProductOfRatios = (a b c d : ℤ) → pos 0 <ℤ b → pos 0 <ℤ d → times (ratio a b) (ratio c d) ≡ ratio (a *ℤ c) (b *ℤ d)

-- - (a / b) = (- a) / b
abbrev pub NegativeOfRatio : Type 0
NegativeOfRatio = (a b : ℤ) → pos 0 <ℤ b → minus (ratio a b) ≡ ratio (neg_ℤ a) b

-- (a / b) (b / a) = 1
abbrev pub InverseOfRatio : Type 0
InverseOfRatio = (a b : ℤ) → pos 0 <ℤ b → ¬ (a ≡ pos 0) → times (ratio a b) (ratio b a) ≡ whole (pos 1)

-- (- a) / (- b) = a / b
abbrev pub SignOfDenominator : Type 0
SignOfDenominator = (a b : ℤ) → ratio (neg_ℤ a) (neg_ℤ b) ≡ ratio a b

-- each rational but 0 has an inverse
abbrev pub InverseOfRational : Type 0
InverseOfRational = (x : ℚ) → ¬ (x ≡ whole (pos 0)) → times x (invert x) ≡ whole (pos 1)

-- ---- reduced pairs
-- the denominator is positive, and no number above 1 divides both
pub record IsReduced (n d : ℤ) : Type 0 where
  pub above : pos 0 <ℤ d
  pub coprime : common n d ≡ 1

-- numerator and denominator of a rational are a reduced pair of it
abbrev pub PartsAreReduced : Type 0
PartsAreReduced = (x : ℚ) → IsReduced (numerator x) (denominator x) × (ratio (numerator x) (denominator x) ≡ x)

-- division by the greatest common divisor reduces and keeps the rational
abbrev pub DivisionReduces : Type 0
DivisionReduces = (n d : ℤ) → pos 0 <ℤ d → IsReduced (top n d) (bottom n d) × (ratio (top n d) (bottom n d) ≡ ratio n d)

-- two reduced pairs of one rational are the same
abbrev pub OneReducedPair : Type 0
OneReducedPair = (n d m e : ℤ) → IsReduced n d → IsReduced m e → ratio n d ≡ ratio m e → (n ≡ m) × (d ≡ e)
