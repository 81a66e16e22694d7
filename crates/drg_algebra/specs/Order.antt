-- Ordered rings, and the order of the values a + b √D.
use Rattle.std.specs.Prelude.{◌≡◌, ℕ, ℤ, pos, ◌<ℤ◌}
use Rattle.std.proofs.Common.{◌⊎◌}
use Rattle.drg_algebra.specs.Ring.{CommutativeRing, sub}
use Rattle.drg_algebra.specs.Rational.{ℚ, whole}
use Rattle.drg_algebra.specs.Reduced.{numerator}
use Rattle.drg_algebra.specs.Pairs.{Pair, pairs, rational_numbers}

-- The members above nil order the ring: they are closed under sums and products, and a member, nil, or the negative.
pub record IsOrdered (r : CommutativeRing) (Above : r.Of → Type 0) : Type 0 where
  pub plus : (x y : r.Of) → Above x → Above y → Above (r.plus x y)
  pub times : (x y : r.Of) → Above x → Above y → Above (r.times x y)
  pub sign : (x : r.Of) → Above x ⊎ ((x ≡ r.nil) ⊎ Above (r.minus x))
  pub apart : ¬ (Above r.nil)

-- x < y where y - x is above nil
abbrev pub Less : (r : CommutativeRing) (Above : r.Of → Type 0) → r.Of → r.Of → Type 0
Less r Above x y = Above (sub r y x)

-- above nil, or nil
abbrev pub IsNotNegative : (r : CommutativeRing) (Above : r.Of → Type 0) → r.Of → Type 0
IsNotNegative r Above x = Above x ⊎ (x ≡ r.nil)

-- a strict linear order that sums keep, and products with a member above nil
pub record IsLinearOrder (r : CommutativeRing) (Below : r.Of → r.Of → Type 0) : Type 0 where
  pub irreflexive : (x : r.Of) → ¬ (Below x x)
  pub transitive : (x y z : r.Of) → Below x y → Below y z → Below x z
  pub linear : (x y : r.Of) → Below x y ⊎ ((x ≡ y) ⊎ Below y x)
  pub plus : (x y z : r.Of) → Below x y → Below (r.plus x z) (r.plus y z)
  pub times : (x y z : r.Of) → Below x y → Below r.nil z → Below (r.times x z) (r.times y z)

-- ---- whole numbers and rationals
abbrev pub IsWholeAbove : ℤ → Type 0
IsWholeAbove x = pos 0 <ℤ x

-- the numerator of the reduced pair is above 0
abbrev pub IsAbove : ℚ → Type 0
IsAbove x = pos 0 <ℤ numerator x

-- ---- values
-- a + b √D is above nil in three cases: neither part is negative and one is not nil; a > 0, b < 0 and a² > D b²;
-- a < 0, b > 0 and D b² > a²
abbrev pub PositiveRoot : (r : CommutativeRing) (Above : r.Of → Type 0) → r.Of → Pair r.Of → Type 0
PositiveRoot r Above d z =
    (IsNotNegative r Above z.a × IsNotNegative r Above z.b × (¬ (z ≡ (pairs r r.nil (r.minus d)).nil)))
    ⊎ ((Above z.a × Above (r.minus z.b) × Less r Above (r.times d (r.times z.b z.b)) (r.times z.a z.a))
    ⊎ (Above (r.minus z.a) × Above z.b × Less r Above (r.times z.a z.a) (r.times d (r.times z.b z.b))))

-- a + b √root is positive, for rationals a and b
abbrev pub IsPositive : ℕ → Pair ℚ → Type 0
IsPositive root z = PositiveRoot rational_numbers IsAbove (whole (pos root)) z

-- a² - D b²
abbrev pub root_norm : (r : CommutativeRing) → r.Of → Pair r.Of → r.Of
root_norm r d z = sub r (r.times z.a z.a) (r.times d (r.times z.b z.b))

-- the same in two cases: a > 0 and a² > D b², or b > 0 and D b² > a²
abbrev pub AboveRoot : (r : CommutativeRing) (Above : r.Of → Type 0) → r.Of → Pair r.Of → Type 0
AboveRoot r Above d z = (Above (root_norm r d z) × Above z.a) ⊎ (Above (r.minus (root_norm r d z)) × Above z.b)
