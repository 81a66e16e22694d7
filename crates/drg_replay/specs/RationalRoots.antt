-- Over root 0 the values of a derivation are fractions, and so are their work numbers.
use Rattle.std.specs.Prelude.{◌≡◌, ℕ, ℤ, List}
use Rattle.drg_algebra.specs.Rational.{ℚ}
use Rattle.drg_algebra.specs.Rational as Rational
use Rattle.drg_fraction.specs.Rationals.{rational_operations}
use Rattle.drg_quadratic.specs.Values.{rational, plus, minus, times}
use Rattle.drg_quadratic.specs.Operations.{value_operations}
use Rattle.drg_replay.specs.FieldNumbers.{fraction_at, value_at}

pub record RationalRootLaw : Type 0 where
  -- a field number is a fraction
  pub values : (numbers : List ℤ) (j : ℕ) → value_at 0 numbers j ≡ rational (fraction_at numbers j)
  -- sums, negatives and products of fractions are fractions
  pub sum : (x y : ℚ) → plus (rational x) (rational y) ≡ rational (Rational.plus x y)
  pub negative : (x : ℚ) → minus (rational x) ≡ rational (Rational.minus x)
  pub product : (x y : ℚ) → times 0 (rational x) (rational y) ≡ rational (Rational.times x y)
  -- and fit where those of the fractions do
  pub sum_fits : (x y : ℚ) → (value_operations 0).sum_fits (rational x) (rational y) ≡ rational_operations.sum_fits x y
  pub difference_fits : (x y : ℚ) → (value_operations 0).difference_fits (rational x) (rational y) ≡ rational_operations.difference_fits x y
  pub product_fits : (x y : ℚ) → (value_operations 0).product_fits (rational x) (rational y) ≡ rational_operations.product_fits x y
  pub sign_fits : (x : ℚ) → (value_operations 0).sign_fits (rational x) ≡ rational_operations.sign_fits x
