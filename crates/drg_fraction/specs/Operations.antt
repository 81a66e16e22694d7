-- The operations on the values a + b √root over one root, each with the test whether its work numbers are in range.
use Rattle.std.specs.Prelude.{Bool}
use Rattle.drg_algebra.specs.Rational.{ℚ}

-- V holds the values of every root; the operations are those of one root.
pub record Operations (V : Type 0) : Type 1 where
  -- 0 and 1, sums, negatives, products and inverses
  pub nil : V
  pub unit : V
  pub plus : V → V → V
  pub minus : V → V
  pub times : V → V → V
  pub invert : V → V
  -- a rational as a value, √root, and the a and the b of a value
  pub rational : ℚ → V
  pub square_root : V
  pub rational_part : V → ℚ
  pub root_part : V → ℚ
  -- which values belong to the root, and which of them are positive
  pub IsOver : V → Type 0
  pub IsPositive : V → Type 0
  -- whether the work numbers of a sum, a difference, a product, a quotient and a sign are in range
  pub sum_fits : V → V → Bool
  pub difference_fits : V → V → Bool
  pub product_fits : V → V → Bool
  pub quotient_fits : V → V → Bool
  pub sign_fits : V → Bool
