-- The rationals as an exact field of root 0, in which each value is its own rational part.
use Rattle.std.specs.Prelude.{◌≡◌, ℕ, pos, true, refl}
use Rattle.std.proofs.Common.{sym, ◌∙◌, ap, arith}
use Rattle.drg_algebra.specs.Rational.{ℚ, whole, plus, times, minus, rationals}
use Rattle.drg_algebra.specs.Fields.{invert, invert_is, rational_field}
use Rattle.drg_algebra.proofs.Maps.{whole_map}
use Rattle.drg_algebra.proofs.WholeParts.{zero_times}
use Rattle.drg_algebra.proofs.NumberOrder.{rationals_ordered, sign_of_whole}
use Rattle.drg_algebra.specs.Order.{IsAbove}
use Rattle.drg_fraction.specs.Work.{sum_fits, difference_fits, product_fits, quotient_fits}
use Rattle.drg_fraction.specs.Operations.{Operations}
use Rattle.drg_fraction.specs.Field.{IsExactField}

-- The operations on rationals: each is its own rational part, the part of the root is 0, and each belongs to root 0.
abbrev pub rational_operations : Operations ℚ
rational_operations = record {
  nil = whole (pos 0);
  unit = whole (pos 1);
  plus = plus;
  minus = minus;
  times = times;
  invert = invert;
  rational = λ q. q;
  square_root = whole (pos 0);
  rational_part = λ q. q;
  root_part = λ q. whole (pos 0);
  IsOver = λ q. Unit {0};
  IsPositive = IsAbove;
  sum_fits = sum_fits;
  difference_fits = difference_fits;
  product_fits = product_fits;
  quotient_fits = quotient_fits;
  sign_fits = λ q. true;
}

-- the rationals meet the laws of an exact field, at root 0
pub rational_laws : (root : ℕ) → root ≡ 0 → IsExactField rational_operations root
rational_laws root e = record {
  ring = rationals;
  apart = rational_field.apart;
  told = rational_field.test;
  inverse = λ x o f. invert_is x f;
  over_prop = λ x p q. refl;
  over_rational = λ q. tt;
  over_root = tt;
  over_plus = λ x y p q. tt;
  over_times = λ x y p q. tt;
  over_minus = λ x p. tt;
  over_invert = λ x p q. tt;
  positive_plus = λ x y o p. rationals_ordered.plus x y;
  positive_times = λ x y o p. rationals_ordered.times x y;
  positive_or_not = λ x o. rationals_ordered.sign x;
  nil_is_not_positive = rationals_ordered.apart;
  rational_nil = refl;
  rational_unit = refl;
  rational_plus = λ p q. refl;
  rational_times = λ p q. refl;
  rational_positive = λ q h. h;
  whole_plus = whole_map.plus;
  whole_times = whole_map.times;
  whole_positive = λ n h. (sign_of_whole n).1 h;
  squarefree = λ h. absurd (omega (arith, e));
  above_one = λ h. absurd (omega (arith, e));
  square = zero_times (whole (pos 0)) ∙ ap (λ (n : ℕ). whole (pos n)) (sym e);
  root_positive = λ h. absurd (omega (arith, e));
  by_parts = λ x o. sym (ap (plus x) (zero_times (whole (pos 0))) ∙ rationals.plus_nil x);
  flat = λ z x o. refl;
  nil_by_parts = λ x o p q. p;
  rational_part_of_rational = λ q. refl;
  root_part_of_rational = λ q. refl;
  rational_part_of_root = λ h. absurd (omega (arith, e));
  root_part_of_root = λ h. absurd (omega (arith, e));
  rational_part_of_sum = λ x y. refl;
  root_part_of_sum = λ x y. sym (rationals.plus_nil (whole (pos 0)));
  rational_part_scaled = λ q x. refl;
  root_part_scaled = λ q x. sym (rationals.times_comm q (whole (pos 0)) ∙ zero_times q);
}
