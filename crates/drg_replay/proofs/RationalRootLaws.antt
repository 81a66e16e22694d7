-- The operations over root 0 make the work numbers of fractions.
use Rattle.std.proofs.Common.{◌≡◌, ◌^◌, ◌<◌, Bool, true, false, refl, sym, ap, ap₂, ◌∙◌, subst, arith, ℤ, pos}
use Rattle.std.specs.Prelude.{◌*ℤ◌, ◌<ℤ◌, ◌&&◌, unsigned_abs, if◌then◌else◌}
use Rattle.std.specs.Ordering.{int_cmp}
use Rattle.std.specs.declared.cmp.Ordering.{Ordering}
use Rattle.std.specs.declared.cmp.Ordering.TheVariants.{Less, Equal, Greater}
use Rattle.drg_algebra.specs.Ring.{◌⊗◌, neg, none, ring2}
use Rattle.drg_algebra.specs.Integer.{integers, above_times, ring6}
use Rattle.drg_algebra.specs.Pairs.{pair_path}
use Rattle.drg_algebra.specs.Rational.{ℚ, whole, rationals, times}
use Rattle.drg_algebra.specs.Ratio.{ratio, ratio_same, times_ratio}
use Rattle.drg_algebra.specs.Reduced.{numerator, denominator, denominator_above, common, top, bottom, top_is, bottom_is, bottom_above, ratio_of_parts}
use Rattle.drg_algebra.proofs.Tests.{both, and-in}
use Rattle.drg_algebra.proofs.WholeParts.{numerator_whole, denominator_whole, whole_reduced, zero_times}
use Rattle.drg_fraction.specs.Work.{fits_at, sum_work, product_work}
use Rattle.drg_fraction.specs.Work as Parts
use Rattle.drg_fraction.proofs.Shortcuts.{zero_right_fits, zero_by_any_fits, any_by_zero_fits}
use Rattle.drg_quadratic.specs.Values as Values
use Rattle.drg_quadratic.specs.Work.{sign_of, are_opposite}
use Rattle.drg_quadratic.specs.Work as Work
use Rattle.drg_quadratic.specs.Laws.{value_laws}
use Rattle.drg_quadratic.proofs.SmallParts.{ratio_within, whole_within, small_difference}
use Rattle.drg_whole.specs.Range.{InRange, in_range}
use Rattle.drg_replay.specs.RationalRoots.{RationalRootLaw}
use Rattle.drg_replay.proofs.StepLaws.{is_less}

abbrev zero : ℚ
zero = whole (pos 0)

zero_reduced : common (numerator zero) (denominator zero) ≡ 1
zero_reduced = ap₂ common (numerator_whole (pos 0)) (denominator_whole (pos 0)) ∙ whole_reduced (pos 0)

-- a sum with 0 fits where the number does
sum_right : (q : ℚ) → InRange (numerator q) → InRange (denominator q) → Parts.sum_fits q zero ≡ true
unfolding fits_at
sum_right q h k = zero_right_fits (numerator q) (denominator q) (numerator zero) (denominator zero) (numerator_whole (pos 0)) (denominator_above zero) zero_reduced h k

zero_over : InRange (numerator zero)
zero_over = subst InRange (sym (numerator_whole (pos 0))) (omega arith)

zero_under : InRange (denominator zero)
zero_under = subst InRange (sym (denominator_whole (pos 0))) (omega arith)

sum_of_zeros : Parts.sum_fits zero zero ≡ true
sum_of_zeros = sum_right zero zero_over zero_under

difference_of_zeros : Parts.difference_fits zero zero ≡ true
difference_of_zeros = let none = whole_within (pos 0) 0 (omega arith) in small_difference zero zero 0 1 0 1 none none (omega arith) (omega arith)

-- and a product with 0 always
product_right : (x : ℚ) → Parts.product_fits x zero ≡ true
unfolding fits_at
product_right x = any_by_zero_fits (numerator x) (denominator x) (numerator zero) (denominator zero) (numerator_whole (pos 0)) (denominator_above zero) zero_reduced (denominator_above x)

product_left : (y : ℚ) → Parts.product_fits zero y ≡ true
unfolding fits_at
product_left y = zero_by_any_fits (numerator zero) (denominator zero) (numerator y) (denominator y) (numerator_whole (pos 0)) (denominator_above zero) zero_reduced (denominator_above y)

times_zero : (x : ℚ) → times x zero ≡ zero
times_zero x = rationals.times_comm x zero ∙ zero_times x

-- ---- the parts of a product that fits are in range
module _ (x y : ℚ) where
  abbrev a : ℤ
  a = numerator x

  abbrev b : ℤ
  b = denominator x

  abbrev c : ℤ
  c = numerator y

  abbrev d : ℤ
  d = denominator y

  abbrev over : ℤ
  over = top a d *ℤ top c b

  abbrev under : ℤ
  under = bottom c b *ℤ bottom a d

  under_above : pos 0 <ℤ under
  under_above = above_times (bottom c b) (bottom a d) (bottom_above c b (denominator_above x)) (bottom_above a d (denominator_above y))

  crossed : over *ℤ (b *ℤ d) ≡ (a *ℤ c) *ℤ under
  crossed =
      ap (λ z. over *ℤ z) (ap₂ ◌*ℤ◌ (sym (bottom_is c b)) (sym (bottom_is a d)))
      ∙ ring6 integers (λ s t u v g h. (s ⊗ t) ⊗ ((h ⊗ u) ⊗ (g ⊗ v))) (λ s t u v g h. ((g ⊗ s) ⊗ (h ⊗ t)) ⊗ (u ⊗ v)) refl (top a d) (top c b) (bottom c b) (bottom a d) (pos (common a d)) (pos (common c b))
      ∙ ap (λ z. z *ℤ under) (ap₂ ◌*ℤ◌ (top_is a d) (top_is c b))

  product_is : ratio over under ≡ times x y
  product_is =
      ratio_same over under (a *ℤ c) (b *ℤ d) under_above (above_times b d (denominator_above x) (denominator_above y)) crossed
      ∙ (sym (times_ratio a b c d (denominator_above x) (denominator_above y)) ∙ ap₂ times (ratio_of_parts x) (ratio_of_parts y))

  parts_fit : Parts.product_fits x y ≡ true → InRange (numerator (times x y)) × InRange (denominator (times x y))
  unfolding fits_at
  parts_fit h =
      let first = both (in_range over) (in_range under && true) h in
      let second = both (in_range under) true first.1 in
      let within = ratio_within over under (unsigned_abs over) (unsigned_abs under) under_above (omega arith) (omega arith) in
      let high : unsigned_abs over < 2 ^ 127 = is_less _ _ first.0 in
      let low : unsigned_abs under < 2 ^ 127 = is_less _ _ second.0 in
      let o = within.over in
      let u = within.under in
      let over_in : InRange (numerator (ratio over under)) = omega (arith, o, high) in
      let under_in : InRange (denominator (ratio over under)) = omega (arith, u, low) in
      (subst (λ q. InRange (numerator q)) product_is over_in, subst (λ q. InRange (denominator q)) product_is under_in)

-- ---- the operations over root 0
with_zeros : (t : Bool) → (t && true) ≡ t
with_zeros true = refl
with_zeros false = refl

sums : (x y : ℚ) → Work.sum_fits (Values.rational x) (Values.rational y) ≡ Parts.sum_fits x y
sums x y = ap (λ t. Parts.sum_fits x y && t) sum_of_zeros ∙ with_zeros (Parts.sum_fits x y)

differences : (x y : ℚ) → Work.difference_fits (Values.rational x) (Values.rational y) ≡ Parts.difference_fits x y
differences x y = ap (λ t. Parts.difference_fits x y && t) difference_of_zeros ∙ with_zeros (Parts.difference_fits x y)

products : (x y : ℚ) → Work.product_fits 0 (Values.rational x) (Values.rational y) ≡ Parts.product_fits x y
products x y = by (Parts.product_fits x y) refl
  where
    square : times zero (times zero zero) ≡ zero
    square = zero_times (times zero zero)

    all_fit : Parts.product_fits x y ≡ true → Work.product_fits 0 (Values.rational x) (Values.rational y) ≡ true
    all_fit h =
        let parts = parts_fit x y h in
        and-in _ _ (and-in _ _ (and-in _ _ (and-in _ _ (and-in _ _ (and-in _ _ h (product_right zero)) (product_left (times zero zero)))
        (subst (λ q. Parts.sum_fits (times x y) q ≡ true) (sym square) (sum_right (times x y) parts.0 parts.1)))
        (product_right x)) (product_left y))
        (subst (λ q. Parts.sum_fits q (times zero y) ≡ true) (sym (times_zero x)) (subst (λ q. Parts.sum_fits zero q ≡ true) (sym (zero_times y)) sum_of_zeros))

    by : (t : Bool) → Parts.product_fits x y ≡ t → Work.product_fits 0 (Values.rational x) (Values.rational y) ≡ Parts.product_fits x y
    by true e = all_fit e ∙ sym e
    by false e = rw e refl

signs : (x : ℚ) → Work.sign_fits 0 (Values.rational x) ≡ true
signs x = by (sign_of x) (sign_of zero) (ap (λ z. int_cmp z (pos 0)) (numerator_whole (pos 0)))
  where
    by : (s t : Ordering) → t ≡ Equal → (if are_opposite s t then Work.norm_fits 0 (Values.rational x) else true) ≡ true
    by Less Equal e = refl
    by Equal Equal e = refl
    by Greater Equal e = refl
    by s Less e = cc
    by s Greater e = cc

pub rational_root : RationalRootLaw
rational_root =
    let laws = value_laws 0 (λ h. absurd (omega (arith, h))) in
    record {
      values = λ numbers j. refl;
      sum = λ x y. sym (laws.rational_plus x y);
      negative = λ x. pair_path _ _ refl (ring2 rationals (λ x y. neg none) (λ x y. none) refl x x);
      product = λ x y. sym (laws.rational_times x y);
      sum_fits = sums;
      difference_fits = differences;
      product_fits = products;
      sign_fits = signs;
    }
