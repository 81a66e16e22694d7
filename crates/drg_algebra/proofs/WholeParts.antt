-- The reduced parts of whole numbers, of 0 and of negatives.
use Rattle.std.proofs.Common.{◌≡◌, ℕ, ◌%◌, ◌<ℤ◌, zero, suc, ℤ, pos, negsuc, unsigned_abs, int_div, refl, ap, sym, ◌∙◌, arith}
use Rattle.std.specs.Prelude.{◌+ℤ◌, ◌*ℤ◌, neg_ℤ}
use Rattle.std.proofs.lemmas.Int.{ints}
use Rattle.std.proofs.lemmas.Nat.Gcd.{dvd_refl}
use Rattle.std.proofs.Math.Nat.{zero-div}
use native.Mathlib.Nat.{mod-one}
use mathlib.Core.Quot.Quotient.{exact}
use Rattle.drg_algebra.specs.Ring.{none, ◌⊗◌, ring2}
use Rattle.drg_algebra.specs.Integer.{integers, above_times, cancel_above}
use Rattle.drg_algebra.specs.Rational.{ℚ, pairs, cross_prop, whole, plus, times, minus, rationals}
use Rattle.drg_algebra.specs.Ratio.{ratio, one_above, ratio_one, ratio_same, plus_ratio, div_exact}
use Rattle.drg_algebra.specs.Gcd.{gcd_of, gcd_step, gcd_zero}
use Rattle.drg_algebra.specs.Reduced.{common, abs_pos, numerator, denominator, numerator_ratio, denominator_ratio, denominator_above, ratio_of_parts}
use Rattle.drg_algebra.proofs.Divisors.{gcd_commutes}
use Rattle.drg_algebra.proofs.RatioLemmas.{negative_of_ratio, parts_are_reduced}

-- ---- whole numbers
pub same_whole : (m n : ℤ) → whole m ≡ whole n → m ≡ n
same_whole m n e = let cross : m *ℤ pos 1 ≡ n *ℤ pos 1 = exact pairs cross_prop e in omega (arith, ints)

pub whole_reduced : (n : ℤ) → common n (pos 1) ≡ 1
whole_reduced n =
    let e : unsigned_abs n % 1 ≡ 0 = mod-one (unsigned_abs n) in
    gcd_step (unsigned_abs n) 1 ∙ ap (gcd_of 1) e ∙ gcd_zero 1

pub one_reduced : (n : ℤ) → common (pos 1) n ≡ 1
one_reduced n = gcd_commutes 1 (unsigned_abs n) ∙ whole_reduced n

pub numerator_whole : (n : ℤ) → numerator (whole n) ≡ n
numerator_whole n = ap numerator (sym (ratio_one n)) ∙ numerator_ratio n (pos 1) one_above (whole_reduced n)

pub denominator_whole : (n : ℤ) → denominator (whole n) ≡ pos 1
denominator_whole n = ap denominator (sym (ratio_one n)) ∙ denominator_ratio n (pos 1) one_above (whole_reduced n)

-- a rational is whole exactly where its denominator is 1
pub whole_value : (q : ℚ) → denominator q ≡ pos 1 → q ≡ whole (numerator q)
whole_value q e = sym (ratio_of_parts q) ∙ ap (ratio (numerator q)) e ∙ ratio_one (numerator q)

pub value_whole : (q : ℚ) (n : ℤ) → q ≡ whole n → denominator q ≡ pos 1
value_whole q n e = ap denominator e ∙ denominator_whole n

-- two halves are one whole
pub two_halves : (n : ℤ) → plus (ratio n (pos 2)) (ratio n (pos 2)) ≡ whole n
two_halves n =
    let two_above : pos 0 <ℤ pos 2 = record { lt = tt } in
    let cross : (n *ℤ pos 2 +ℤ n *ℤ pos 2) *ℤ pos 1 ≡ n *ℤ (pos 2 *ℤ pos 2) = omega (arith, ints) in
    plus_ratio n (pos 2) n (pos 2) two_above two_above
    ∙ ratio_same (n *ℤ pos 2 +ℤ n *ℤ pos 2) (pos 2 *ℤ pos 2) n (pos 1) (above_times (pos 2) (pos 2) two_above two_above) one_above cross
    ∙ ratio_one n

-- ---- 0
pub zero_times : (q : ℚ) → times (whole (pos 0)) q ≡ whole (pos 0)
zero_times q = ring2 rationals (λ x y. none ⊗ x) (λ x y. none) refl q q

pub zero_ratio : (d : ℤ) → pos 0 <ℤ d → ratio (pos 0) d ≡ whole (pos 0)
zero_ratio d h = let cross : pos 0 *ℤ pos 1 ≡ pos 0 *ℤ d = omega (arith, ints) in ratio_same (pos 0) d (pos 0) (pos 1) h one_above cross ∙ ratio_one (pos 0)

pub divisor_of_zero : (d : ℤ) → common (pos 0) d ≡ unsigned_abs d
divisor_of_zero d = gcd_commutes 0 (unsigned_abs d) ∙ gcd_zero (unsigned_abs d)

-- 0 in lowest terms is 0/1
pub zero_over_one : (n d : ℤ) → n ≡ pos 0 → pos 0 <ℤ d → common n d ≡ 1 → d ≡ pos 1
zero_over_one n d e h r =
    let size : unsigned_abs d ≡ 1 = sym (divisor_of_zero d) ∙ ap (λ m. common m d) (sym e) ∙ r in
    sym (abs_pos d h) ∙ ap pos size

-- a positive number, and 0, divided by its size
pub divided_by_itself : (d : ℤ) → pos 0 <ℤ d → int_div d (pos (unsigned_abs d)) ≡ pos 1
divided_by_itself d h =
    cancel_above (int_div d (pos (unsigned_abs d))) (pos 1) d h
    (ap (λ n. int_div d (pos (unsigned_abs d)) *ℤ n) (sym (abs_pos d h))
    ∙ integers.times_comm (int_div d (pos (unsigned_abs d))) (pos (unsigned_abs d))
    ∙ div_exact d (unsigned_abs d) (dvd_refl (unsigned_abs d))
    ∙ once d)
  where
    once : (m : ℤ) → m ≡ pos 1 *ℤ m
    once m = omega (arith, ints)

pub zero_divided : (g : ℕ) → int_div (pos 0) (pos g) ≡ pos 0
zero_divided g = ap pos (zero-div g)

-- a rational is 0 exactly where its numerator is
pub zero_value : (q : ℚ) → numerator q ≡ pos 0 → q ≡ whole (pos 0)
zero_value q e = sym (ratio_of_parts q) ∙ ap (λ n. ratio n (denominator q)) e ∙ zero_ratio (denominator q) (denominator_above q)

pub value_zero : (q : ℚ) → q ≡ whole (pos 0) → numerator q ≡ pos 0
value_zero q e = ap numerator e ∙ numerator_whole (pos 0)

-- ---- negatives
pub abs_turned : (n : ℤ) → unsigned_abs (neg_ℤ n) ≡ unsigned_abs n
abs_turned (pos zero) = refl
abs_turned (pos (suc n)) = refl
abs_turned (negsuc n) = refl

negative_reduced : (q : ℚ) → common (neg_ℤ (numerator q)) (denominator q) ≡ 1
negative_reduced q = ap (λ m. gcd_of m (unsigned_abs (denominator q))) (abs_turned (numerator q)) ∙ (parts_are_reduced q).0.coprime

negative_is : (q : ℚ) → minus q ≡ ratio (neg_ℤ (numerator q)) (denominator q)
negative_is q = ap minus (sym (ratio_of_parts q)) ∙ negative_of_ratio (numerator q) (denominator q) (denominator_above q)

pub numerator_minus : (q : ℚ) → numerator (minus q) ≡ neg_ℤ (numerator q)
numerator_minus q = ap numerator (negative_is q) ∙ numerator_ratio (neg_ℤ (numerator q)) (denominator q) (denominator_above q) (negative_reduced q)

pub denominator_minus : (q : ℚ) → denominator (minus q) ≡ denominator q
denominator_minus q = ap denominator (negative_is q) ∙ denominator_ratio (neg_ℤ (numerator q)) (denominator q) (denominator_above q) (negative_reduced q)
