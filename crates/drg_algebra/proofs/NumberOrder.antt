-- Whole numbers and rationals are ordered.
use Rattle.std.proofs.Common.{◌≡◌, ℕ, zero, suc, ◌<◌, refl, ap, ap₂, sym, ◌∙◌, subst, arith, ℤ, pos, negsuc, ◌⊎◌, inl, inr}
use Rattle.std.specs.Prelude.{◌+ℤ◌, ◌*ℤ◌, neg_ℤ, ◌<ℤ◌}
use Rattle.std.proofs.lemmas.Int.{ints}
use Rattle.drg_algebra.specs.Ring.{◌⊗◌, neg, ring2}
use Rattle.drg_algebra.specs.Integer.{integers, above_times}
use Rattle.drg_algebra.specs.Rational.{whole, plus, times, minus}
use Rattle.drg_algebra.specs.Ratio.{ratio, one_above, ratio_is, ratio_same, same_ratio, plus_ratio, times_ratio}
use Rattle.drg_algebra.specs.Reduced.{numerator, denominator, denominator_above, ratio_of_parts}
use Rattle.drg_algebra.specs.Pairs.{whole_numbers, rational_numbers}
use Rattle.drg_algebra.specs.Order.{IsOrdered, IsWholeAbove, IsAbove}
use Rattle.drg_algebra.specs.OrderLaws.{SignOfRatio, LessByCrossProducts, SignOfWhole}
use Rattle.drg_algebra.proofs.RatioLemmas.{negative_of_ratio}

pub integers_ordered : IsOrdered whole_numbers IsWholeAbove
integers_ordered = record {
  plus = λ x y h k. omega (arith, ints);
  times = above_times;
  sign = cases;
  apart = λ h. omega (arith, ints);
}
  where
    cases : (x : ℤ) → (pos 0 <ℤ x) ⊎ ((x ≡ pos 0) ⊎ (pos 0 <ℤ neg_ℤ x))
    cases (pos zero) = inr (inl refl)
    cases (pos (suc n)) = inl (omega (arith, ints))
    cases (negsuc n) = inr (inr (omega (arith, ints)))

-- a factor of a positive product is positive where the other is
positive_factor : (x d y : ℤ) → pos 0 <ℤ d → pos 0 <ℤ y → x *ℤ d ≡ y → pos 0 <ℤ x
positive_factor (pos zero) d y h k e = omega (arith, ints)
positive_factor (pos (suc x)) d y h k e = omega (arith, ints)
positive_factor (negsuc x) d y h k e =
    let q : negsuc x *ℤ d ≡ neg_ℤ (pos (suc x) *ℤ d) = ring2 integers (λ a b. neg a ⊗ b) (λ a b. neg (a ⊗ b)) refl (pos (suc x)) d in
    let p = above_times (pos (suc x)) d (omega (arith, ints)) h in
    absurd (omega (arith, ints))

above_ratio : (m d : ℤ) → pos 0 <ℤ d → pos 0 <ℤ m → IsAbove (ratio m d)
above_ratio m d h k =
    let x = ratio m d in
    let e : numerator x *ℤ d ≡ m *ℤ denominator x = same_ratio (numerator x) (denominator x) m d (denominator_above x) h (ratio_of_parts x) in
    positive_factor (numerator x) d _ h (above_times m (denominator x) k (denominator_above x)) e

pub rationals_ordered : IsOrdered rational_numbers IsAbove
rationals_ordered = record {
  plus = λ x y h k.
      subst IsAbove (sym (plus_ratio (numerator x) (denominator x) (numerator y) (denominator y) (denominator_above x) (denominator_above y)) ∙ ap₂ plus (ratio_of_parts x) (ratio_of_parts y))
      (above_ratio _ _ (above_times (denominator x) (denominator y) (denominator_above x) (denominator_above y)) (both_above _ _ (above_times (numerator x) (denominator y) h (denominator_above y)) (above_times (numerator y) (denominator x) k (denominator_above x))));
  times = λ x y h k.
      subst IsAbove (sym (times_ratio (numerator x) (denominator x) (numerator y) (denominator y) (denominator_above x) (denominator_above y)) ∙ ap₂ times (ratio_of_parts x) (ratio_of_parts y))
      (above_ratio _ _ (above_times (denominator x) (denominator y) (denominator_above x) (denominator_above y)) (above_times (numerator x) (numerator y) h k));
  sign = λ x. subst (λ y. IsAbove y ⊎ ((y ≡ whole (pos 0)) ⊎ IsAbove (minus y))) (ratio_of_parts x) (cases (numerator x) (denominator x) (denominator_above x));
  apart = λ h. none_above h;
}
  where
    both_above : (x y : ℤ) → pos 0 <ℤ x → pos 0 <ℤ y → pos 0 <ℤ (x +ℤ y)
    both_above x y h k = omega (arith, ints)

    cases : (m d : ℤ) → pos 0 <ℤ d → IsAbove (ratio m d) ⊎ ((ratio m d ≡ whole (pos 0)) ⊎ IsAbove (minus (ratio m d)))
    cases (pos zero) d h = inr (inl (ratio_same (pos 0) d (pos 0) (pos 1) h one_above (omega (arith, ints)) ∙ ratio_is (pos 0) (pos 1) one_above))
    cases (pos (suc m)) d h = inl (above_ratio (pos (suc m)) d h (omega (arith, ints)))
    cases (negsuc m) d h = inr (inr (subst IsAbove (sym (negative_of_ratio (negsuc m) d h)) (above_ratio (pos (suc m)) d h (omega (arith, ints)))))

    none_above : ¬ (IsAbove (whole (pos 0)))
    none_above h =
        let e : numerator (whole (pos 0)) *ℤ pos 1 ≡ pos 0 *ℤ denominator (whole (pos 0)) =
        same_ratio _ _ (pos 0) (pos 1) (denominator_above (whole (pos 0))) one_above (ratio_of_parts (whole (pos 0)) ∙ sym (ratio_is (pos 0) (pos 1) one_above)) in
        let b : ⊥ = omega (arith, ints) in b

pub root_above : (root : ℕ) → 1 < root → IsAbove (whole (pos root))
root_above root big = subst IsAbove (ratio_is (pos root) (pos 1) one_above) (above_ratio (pos root) (pos 1) one_above (omega (arith, ints)))

-- ---- signs of ratios
ratio_above : (a b : ℤ) → pos 0 <ℤ b → IsAbove (ratio a b) → pos 0 <ℤ a
ratio_above a b h k =
    let x = ratio a b in
    let e : numerator x *ℤ b ≡ a *ℤ denominator x = same_ratio (numerator x) (denominator x) a b (denominator_above x) h (ratio_of_parts x) in
    positive_factor a (denominator x) _ (denominator_above x) (above_times (numerator x) b k h) (sym e)

pub sign_of_ratio : SignOfRatio
sign_of_ratio a b h = (ratio_above a b h, above_ratio a b h)

pub less_by_cross_products : LessByCrossProducts
less_by_cross_products a b c d h k =
    let e : plus (ratio c d) (minus (ratio a b)) ≡ ratio (c *ℤ b +ℤ neg_ℤ a *ℤ d) (d *ℤ b) = ap (plus (ratio c d)) (negative_of_ratio a b h) ∙ plus_ratio c d (neg_ℤ a) b k h in
    let q : neg_ℤ a *ℤ d ≡ neg_ℤ (a *ℤ d) = ring2 integers (λ a d. neg a ⊗ d) (λ a d. neg (a ⊗ d)) refl a d in
    let some = above_times d b k h in (
      λ l. let m : pos 0 <ℤ (c *ℤ b +ℤ neg_ℤ a *ℤ d) = ratio_above _ _ some (subst IsAbove e l) in omega (arith, ints),
      λ l. subst IsAbove (sym e) (above_ratio _ _ some (omega (arith, ints))),
    )

pub sign_of_whole : SignOfWhole
sign_of_whole n =
    let e = ratio_is n (pos 1) one_above in
    let s = sign_of_ratio n (pos 1) one_above in (λ h. s.0 (subst IsAbove (sym e) h), λ h. subst IsAbove e (s.1 h))
