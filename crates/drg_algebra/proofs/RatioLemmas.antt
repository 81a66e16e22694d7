-- Ratios and reduced pairs.
use Rattle.std.proofs.Common.{◌≡◌, zero, suc, refl, ap, sym, ◌∙◌, arith, ℤ, pos, negsuc}
use Rattle.std.specs.Prelude.{◌*ℤ◌, neg_ℤ}
use Rattle.std.proofs.Math.Nat.{ℕ_set}
use Rattle.std.proofs.lemmas.Int.{ints}
use mathlib.Core.Quot.Quotient.{ind, lift}
use Rattle.drg_algebra.specs.Ring.{neg, ring2}
use Rattle.drg_algebra.specs.Integer.{integers}
use Rattle.drg_algebra.specs.Rational.{ℚ, pairs, minus}
use Rattle.drg_algebra.specs.Ratio.{ratio, one_above, ratio_is, ratio_same, same_ratio}
use Rattle.drg_algebra.specs.Reduced.{common, numerator, denominator, bottom_above, reduced, one_reduced, top_ratio, denominator_above, ratio_of_parts}
use Rattle.drg_algebra.specs.Fields.{turned}
use Rattle.drg_algebra.specs.RationalLaws.{EqualByCrossProducts, NegativeOfRatio, InverseOfRatio, SignOfDenominator, PartsAreReduced, DivisionReduces, OneReducedPair}

pub equal_by_cross_products : EqualByCrossProducts
equal_by_cross_products a b c d h k = (same_ratio a b c d h k, ratio_same a b c d h k)

pub negative_of_ratio : NegativeOfRatio
unfolding minus lift
negative_of_ratio m d h = ap minus (ratio_is m d h) ∙ sym (ratio_is (neg_ℤ m) d h)

double_negative : (a : ℤ) → neg_ℤ (neg_ℤ a) ≡ a
double_negative a = ring2 integers (λ a b. neg (neg a)) (λ a b. a) refl a a

pub sign_of_denominator : SignOfDenominator
unfolding ratio
sign_of_denominator a (pos zero) = refl
sign_of_denominator a (pos (suc n)) = ap (λ x. ratio x (pos (suc n))) (double_negative a)
sign_of_denominator a (negsuc n) = refl

pub inverse_of_ratio : InverseOfRatio
inverse_of_ratio a b h ne = turned a b h (λ e. ne (numerator_nil (same_ratio a b (pos 0) (pos 1) h one_above (e ∙ sym (ratio_is (pos 0) (pos 1) one_above)))))
  where
    numerator_nil : a *ℤ pos 1 ≡ pos 0 *ℤ b → a ≡ pos 0
    numerator_nil e = omega (arith, ints)

-- ---- reduced pairs
parts_coprime : (x : ℚ) → common (numerator x) (denominator x) ≡ 1
unfolding numerator denominator lift
parts_coprime = ind pairs {motive = λ x. common (numerator x) (denominator x) ≡ 1} (λ x. ℕ_set _ _) (λ p. reduced p.over p.under p.above)

pub parts_are_reduced : PartsAreReduced
parts_are_reduced x = (record { above = denominator_above x; coprime = parts_coprime x }, ratio_of_parts x)

pub division_reduces : DivisionReduces
division_reduces n d h = (record { above = bottom_above n d h; coprime = reduced n d h }, top_ratio n d h)

pub one_reduced_pair : OneReducedPair
one_reduced_pair n d m e p q h = one_reduced n d m e p.above q.above p.coprime q.coprime (same_ratio n d m e p.above q.above h)
