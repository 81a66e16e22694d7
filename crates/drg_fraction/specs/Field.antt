-- Exact fields: the sign of a value, sums and dot products of lists of values, and the laws that code over any
-- exact field rests on.
use Rattle.std.specs.Prelude.{◌≡◌, ℕ, ℤ, pos, ◌<◌, ◌<ℤ◌, ◌+ℤ◌, ◌*ℤ◌, Bool, true, ◌&&◌, List, [], ◌∷◌, fold}
use Rattle.std.proofs.Common.{◌⊎◌}
use Rattle.std.specs.declared.cmp.Ordering.{Ordering}
use Rattle.std.specs.declared.cmp.Ordering.TheVariants.{Less, Equal, Greater}
use Rattle.drg_algebra.specs.Ring.{IsRing}
use Rattle.drg_algebra.specs.Rational.{ℚ, whole}
use Rattle.drg_algebra.specs.Rational as Rational
use Rattle.drg_algebra.specs.Root.{IsSquarefree}
use Rattle.drg_algebra.specs.Order.{IsAbove}
use Rattle.drg_fraction.specs.Operations.{Operations}

module _ {V : Type 0} (o : Operations V) where
  -- how a value stands to nil
  abbrev pub HasSign : V → Ordering → Type 0
  HasSign x Less = o.IsPositive (o.minus x)
  HasSign x Equal = x ≡ o.nil
  HasSign x Greater = o.IsPositive x

  -- x_1 + .. + x_n from left to right, nil for none
  abbrev pub sum_of : List V → V
  sum_of [] = o.nil
  sum_of (x ∷ xs) = fold o.plus x xs

  -- each sum of the next value onto what stands so far fits
  abbrev pub sums_fit_from : V → List V → Bool
  sums_fit_from t [] = true
  sums_fit_from t (x ∷ xs) = o.sum_fits t x && sums_fit_from (o.plus t x) xs

  -- the sums from left to right fit, which start at the first value
  abbrev pub sums_fit : List V → Bool
  sums_fit [] = true
  sums_fit (x ∷ xs) = sums_fit_from x xs

  -- x_1 y_1, .., x_n y_n
  abbrev pub products : List V → List V → List V
  products [] ys = []
  products (x ∷ xs) [] = []
  products (x ∷ xs) (y ∷ ys) = o.times x y ∷ products xs ys

  -- x_1 y_1 + .. + x_n y_n from left to right, nil for none
  abbrev pub dot_of : List V → List V → V
  dot_of xs ys = sum_of (products xs ys)

  -- each product fits, and its sum onto what stands so far
  abbrev pub dot_fits_from : V → List V → List V → Bool
  dot_fits_from t [] ys = true
  dot_fits_from t (x ∷ xs) [] = true
  dot_fits_from t (x ∷ xs) (y ∷ ys) = o.product_fits x y && o.sum_fits t (o.times x y) && dot_fits_from (o.plus t (o.times x y)) xs ys

  -- the first product fits, and those onto it
  abbrev pub dot_fits : List V → List V → Bool
  dot_fits [] ys = true
  dot_fits (x ∷ xs) [] = true
  dot_fits (x ∷ xs) (y ∷ ys) = o.product_fits x y && dot_fits_from (o.times x y) xs ys

-- The laws of the values a + b w over one root, where w w = root, or of the rationals a where root is 0.
pub record IsExactField {V : Type 0} (o : Operations V) (root : ℕ) : Type 0 where
  -- a commutative ring
  pub ring : IsRing o.nil o.unit o.plus o.times o.minus
  pub apart : ¬ (o.unit ≡ o.nil)
  pub told : (x : V) → (x ≡ o.nil) ⊎ (¬ (x ≡ o.nil))
  -- with inverses over the root
  pub inverse : (x : V) → o.IsOver x → ¬ (x ≡ o.nil) → o.times x (o.invert x) ≡ o.unit
  -- whose values over the root are closed
  pub over_prop : (x : V) → IsProp (o.IsOver x)
  pub over_rational : (q : ℚ) → o.IsOver (o.rational q)
  pub over_root : o.IsOver o.square_root
  pub over_plus : (x y : V) → o.IsOver x → o.IsOver y → o.IsOver (o.plus x y)
  pub over_times : (x y : V) → o.IsOver x → o.IsOver y → o.IsOver (o.times x y)
  pub over_minus : (x : V) → o.IsOver x → o.IsOver (o.minus x)
  pub over_invert : (x : V) → o.IsOver x → ¬ (x ≡ o.nil) → o.IsOver (o.invert x)
  -- and ordered
  pub positive_plus : (x y : V) → o.IsOver x → o.IsOver y → o.IsPositive x → o.IsPositive y → o.IsPositive (o.plus x y)
  pub positive_times : (x y : V) → o.IsOver x → o.IsOver y → o.IsPositive x → o.IsPositive y → o.IsPositive (o.times x y)
  pub positive_or_not : (x : V) → o.IsOver x → o.IsPositive x ⊎ ((x ≡ o.nil) ⊎ o.IsPositive (o.minus x))
  pub nil_is_not_positive : ¬ (o.IsPositive o.nil)
  -- the rationals lie in it as an ordered ring
  pub rational_nil : o.rational (whole (pos 0)) ≡ o.nil
  pub rational_unit : o.rational (whole (pos 1)) ≡ o.unit
  pub rational_plus : (p q : ℚ) → o.rational (Rational.plus p q) ≡ o.plus (o.rational p) (o.rational q)
  pub rational_times : (p q : ℚ) → o.rational (Rational.times p q) ≡ o.times (o.rational p) (o.rational q)
  pub rational_positive : (q : ℚ) → IsAbove q → o.IsPositive (o.rational q)
  -- and so do the whole numbers
  pub whole_plus : (m n : ℤ) → o.rational (whole (m +ℤ n)) ≡ o.plus (o.rational (whole m)) (o.rational (whole n))
  pub whole_times : (m n : ℤ) → o.rational (whole (m *ℤ n)) ≡ o.times (o.rational (whole m)) (o.rational (whole n))
  pub whole_positive : (n : ℤ) → pos 0 <ℤ n → o.IsPositive (o.rational (whole n))
  -- the root is 0, or squarefree and above 1, and w is its square root that isn't negative
  pub squarefree : 0 < root → IsSquarefree root
  pub above_one : 0 < root → 1 < root
  pub square : o.times o.square_root o.square_root ≡ o.rational (whole (pos root))
  pub root_positive : 0 < root → o.IsPositive o.square_root
  -- a value is its parts a + b w
  pub by_parts : (x : V) → o.IsOver x → x ≡ o.plus (o.rational (o.rational_part x)) (o.times (o.rational (o.root_part x)) o.square_root)
  pub flat : root ≡ 0 → (x : V) → o.IsOver x → o.root_part x ≡ whole (pos 0)
  pub nil_by_parts : (x : V) → o.IsOver x → o.rational_part x ≡ whole (pos 0) → o.root_part x ≡ whole (pos 0) → x ≡ o.nil
  pub rational_part_of_rational : (q : ℚ) → o.rational_part (o.rational q) ≡ q
  pub root_part_of_rational : (q : ℚ) → o.root_part (o.rational q) ≡ whole (pos 0)
  pub rational_part_of_root : 0 < root → o.rational_part o.square_root ≡ whole (pos 0)
  pub root_part_of_root : 0 < root → o.root_part o.square_root ≡ whole (pos 1)
  pub rational_part_of_sum : (x y : V) → o.rational_part (o.plus x y) ≡ Rational.plus (o.rational_part x) (o.rational_part y)
  pub root_part_of_sum : (x y : V) → o.root_part (o.plus x y) ≡ Rational.plus (o.root_part x) (o.root_part y)
  pub rational_part_scaled : (q : ℚ) (x : V) → o.rational_part (o.times (o.rational q) x) ≡ Rational.times q (o.rational_part x)
  pub root_part_scaled : (q : ℚ) (x : V) → o.root_part (o.times (o.rational q) x) ≡ Rational.times q (o.root_part x)
