-- What fits has parts in range, and sums and products with nil fit.
use Rattle.std.proofs.Common.{◌≡◌, ◌^◌, ◌<◌, ℕ, true, refl, sym, ap, ap₂, ◌∙◌, subst, arith, ℤ, pos}
use Rattle.std.specs.Prelude.{◌+ℤ◌, ◌*ℤ◌, ◌<ℤ◌, ◌&&◌, unsigned_abs}
use Rattle.drg_algebra.specs.Ring.{◌⊕◌, ◌⊗◌, neg, none, ring3}
use Rattle.drg_algebra.specs.Integer.{integers, above_times, ring6}
use Rattle.drg_algebra.specs.Rational.{ℚ, whole, rationals, times, plus}
use Rattle.drg_algebra.specs.Ratio.{ratio, ratio_same, times_ratio, plus_ratio}
use Rattle.drg_algebra.specs.Reduced.{numerator, denominator, denominator_above, common, top, bottom, top_is, bottom_is, bottom_above, ratio_of_parts}
use Rattle.drg_algebra.proofs.Tests.{both, and-in}
use Rattle.drg_algebra.proofs.WholeParts.{numerator_whole, denominator_whole, whole_reduced, zero_times}
use Rattle.drg_fraction.specs.Work.{fits_at}
use Rattle.drg_fraction.specs.Work as Parts
use Rattle.drg_fraction.proofs.Shortcuts.{zero_left_fits, zero_right_fits, zero_by_any_fits, any_by_zero_fits}
use Rattle.drg_quadratic.specs.Values.{Value, nil}
use Rattle.drg_quadratic.specs.Values as Values
use Rattle.drg_quadratic.specs.Work as Work
use Rattle.drg_quadratic.proofs.SmallParts.{ratio_within}
use Rattle.drg_replay.proofs.StepLaws.{is_less}
use Rattle.drg_whole.specs.Range.{InRange, in_range}

-- ---- rationals
-- the numerator and the denominator are in range
pub record IsShown (q : ℚ) : Type 0 where
  pub over : InRange (numerator q)
  pub under : InRange (denominator q)

shown_ratio : (n d : ℤ) → pos 0 <ℤ d → in_range n ≡ true → in_range d ≡ true → IsShown (ratio n d)
shown_ratio n d above left right =
    let within = ratio_within n d (unsigned_abs n) (unsigned_abs d) above (omega arith) (omega arith) in
    let high : unsigned_abs n < 2 ^ 127 = is_less _ _ left in
    let low : unsigned_abs d < 2 ^ 127 = is_less _ _ right in
    let o = within.over in
    let u = within.under in
    record { over = omega (arith, o, high); under = omega (arith, u, low) }

module _ (x y : ℚ) where
  abbrev a : ℤ
  a = numerator x

  abbrev b : ℤ
  b = denominator x

  abbrev c : ℤ
  c = numerator y

  abbrev d : ℤ
  d = denominator y

  -- a product in lowest terms
  abbrev product_over : ℤ
  product_over = top a d *ℤ top c b

  abbrev product_under : ℤ
  product_under = bottom c b *ℤ bottom a d

  product_above : pos 0 <ℤ product_under
  product_above = above_times (bottom c b) (bottom a d) (bottom_above c b (denominator_above x)) (bottom_above a d (denominator_above y))

  product_crossed : product_over *ℤ (b *ℤ d) ≡ (a *ℤ c) *ℤ product_under
  product_crossed =
      ap (λ z. product_over *ℤ z) (ap₂ ◌*ℤ◌ (sym (bottom_is c b)) (sym (bottom_is a d)))
      ∙ ring6 integers (λ s t u v g h. (s ⊗ t) ⊗ ((h ⊗ u) ⊗ (g ⊗ v))) (λ s t u v g h. ((g ⊗ s) ⊗ (h ⊗ t)) ⊗ (u ⊗ v)) refl (top a d) (top c b) (bottom c b) (bottom a d) (pos (common a d)) (pos (common c b))
      ∙ ap (λ z. z *ℤ product_under) (ap₂ ◌*ℤ◌ (top_is a d) (top_is c b))

  product_is : ratio product_over product_under ≡ times x y
  product_is =
      ratio_same product_over product_under (a *ℤ c) (b *ℤ d) product_above (above_times b d (denominator_above x) (denominator_above y)) product_crossed
      ∙ (sym (times_ratio a b c d (denominator_above x) (denominator_above y)) ∙ ap₂ times (ratio_of_parts x) (ratio_of_parts y))

  pub product_shown : Parts.product_fits x y ≡ true → IsShown (times x y)
  unfolding fits_at
  product_shown h =
      let first = both (in_range product_over) (in_range product_under && true) h in
      let second = both (in_range product_under) true first.1 in
      subst IsShown product_is (shown_ratio product_over product_under product_above first.0 second.0)

  -- a sum over the least common denominator
  abbrev sum_over : ℤ
  sum_over = a *ℤ bottom b d +ℤ c *ℤ top b d

  abbrev sum_under : ℤ
  sum_under = b *ℤ bottom b d

  sum_above : pos 0 <ℤ sum_under
  sum_above = above_times b (bottom b d) (denominator_above x) (bottom_above b d (denominator_above y))

  sum_crossed : sum_over *ℤ (b *ℤ d) ≡ (a *ℤ d +ℤ c *ℤ b) *ℤ sum_under
  sum_crossed =
      ap (λ z. sum_over *ℤ (b *ℤ z)) (sym (bottom_is b d))
      ∙ ring6 integers (λ a q c p b g. (a ⊗ q ⊕ c ⊗ p) ⊗ (b ⊗ (g ⊗ q))) (λ a q c p b g. (a ⊗ (g ⊗ q) ⊕ c ⊗ (g ⊗ p)) ⊗ (b ⊗ q)) refl a (bottom b d) c (top b d) b (pos (common b d))
      ∙ ap₂ (λ s t. (a *ℤ s +ℤ c *ℤ t) *ℤ sum_under) (bottom_is b d) (top_is b d)

  sum_is : ratio sum_over sum_under ≡ plus x y
  sum_is =
      ratio_same sum_over sum_under (a *ℤ d +ℤ c *ℤ b) (b *ℤ d) sum_above (above_times b d (denominator_above x) (denominator_above y)) sum_crossed
      ∙ (sym (plus_ratio a b c d (denominator_above x) (denominator_above y)) ∙ ap₂ plus (ratio_of_parts x) (ratio_of_parts y))

  pub sum_shown : Parts.sum_fits x y ≡ true → IsShown (plus x y)
  unfolding fits_at
  sum_shown h =
      let first = both (in_range (a *ℤ bottom b d)) (in_range (c *ℤ top b d) && (in_range sum_over && (in_range sum_under && true))) h in
      let second = both (in_range (c *ℤ top b d)) (in_range sum_over && (in_range sum_under && true)) first.1 in
      let third = both (in_range sum_over) (in_range sum_under && true) second.1 in
      let fourth = both (in_range sum_under) true third.1 in
      subst IsShown sum_is (shown_ratio sum_over sum_under sum_above third.0 fourth.0)

abbrev zero : ℚ
zero = whole (pos 0)

zero_reduced : common (numerator zero) (denominator zero) ≡ 1
zero_reduced = ap₂ common (numerator_whole (pos 0)) (denominator_whole (pos 0)) ∙ whole_reduced (pos 0)

zero_shown : IsShown zero
zero_shown = record {
  over = subst InRange (sym (numerator_whole (pos 0))) (omega arith);
  under = subst InRange (sym (denominator_whole (pos 0))) (omega arith);
}

sum_right : (q : ℚ) → IsShown q → Parts.sum_fits q zero ≡ true
unfolding fits_at
sum_right q s = zero_right_fits (numerator q) (denominator q) (numerator zero) (denominator zero) (numerator_whole (pos 0)) (denominator_above zero) zero_reduced s.over s.under

sum_left : (q : ℚ) → IsShown q → Parts.sum_fits zero q ≡ true
unfolding fits_at
sum_left q s = zero_left_fits (numerator zero) (denominator zero) (numerator q) (denominator q) (numerator_whole (pos 0)) (denominator_above zero) zero_reduced s.over s.under

product_right : (x : ℚ) → Parts.product_fits x zero ≡ true
unfolding fits_at
product_right x = any_by_zero_fits (numerator x) (denominator x) (numerator zero) (denominator zero) (numerator_whole (pos 0)) (denominator_above zero) zero_reduced (denominator_above x)

product_left : (y : ℚ) → Parts.product_fits zero y ≡ true
unfolding fits_at
product_left y = zero_by_any_fits (numerator zero) (denominator zero) (numerator y) (denominator y) (numerator_whole (pos 0)) (denominator_above zero) zero_reduced (denominator_above y)

-- ---- values
-- the numerators and the denominators of both parts are in range
pub record AreShown (z : Value) : Type 0 where
  pub first : IsShown z.a
  pub second : IsShown z.b

pub values_sum_shown : (x y : Value) → Work.sum_fits x y ≡ true → AreShown (Values.plus x y)
values_sum_shown x y h =
    let parts = both (Parts.sum_fits x.a y.a) (Parts.sum_fits x.b y.b) h in
    record { first = sum_shown x.a y.a parts.0; second = sum_shown x.b y.b parts.1 }

pub values_product_shown : (root : ℕ) (x y : Value) → Work.product_fits root x y ≡ true → AreShown (Values.times root x y)
values_product_shown root x y h =
    let ac = times x.a y.a in
    let be = times x.b y.b in
    let ae = times x.a y.b in
    let bc = times x.b y.a in
    let p = Parts.product_fits in
    let last = both (p x.a y.a && p x.b y.b && p (whole (pos root)) be && Parts.sum_fits ac (times (whole (pos root)) be) && p x.a y.b && p x.b y.a) (Parts.sum_fits ae bc) h in
    let sixth = both (p x.a y.a && p x.b y.b && p (whole (pos root)) be && Parts.sum_fits ac (times (whole (pos root)) be) && p x.a y.b) (p x.b y.a) last.0 in
    let fifth = both (p x.a y.a && p x.b y.b && p (whole (pos root)) be && Parts.sum_fits ac (times (whole (pos root)) be)) (p x.a y.b) sixth.0 in
    let fourth = both (p x.a y.a && p x.b y.b && p (whole (pos root)) be) (Parts.sum_fits ac (times (whole (pos root)) be)) fifth.0 in
    let first_is : plus ac (times (whole (pos root)) be) ≡ (Values.times root x y).a = ring3 rationals (λ s r t. s ⊕ r ⊗ t) (λ s r t. s ⊕ neg (neg r ⊗ t)) refl ac (whole (pos root)) be in
    let second_is : plus ae bc ≡ (Values.times root x y).b = ring3 rationals (λ s t u. s ⊕ t) (λ s t u. (s ⊕ t) ⊕ none ⊗ u) refl ae bc be in
    record {
      first = subst IsShown first_is (sum_shown ac (times (whole (pos root)) be) fourth.1);
      second = subst IsShown second_is (sum_shown ae bc last.1);
    }

pub sum_with_nil : (z : Value) → AreShown z → Work.sum_fits z nil ≡ true
sum_with_nil z s = and-in _ _ (sum_right z.a s.first) (sum_right z.b s.second)

pub nil_with_sum : (z : Value) → AreShown z → Work.sum_fits nil z ≡ true
nil_with_sum z s = and-in _ _ (sum_left z.a s.first) (sum_left z.b s.second)

-- the product of nil with a value
pub nil_product : (root : ℕ) (y : Value) → Work.product_fits root nil y ≡ true
nil_product root y =
    let none_a : times zero y.a ≡ zero = zero_times y.a in
    let none_b : times zero y.b ≡ zero = zero_times y.b in
    let scaled : times (whole (pos root)) (times zero y.b) ≡ zero = ap (times (whole (pos root))) none_b ∙ (rationals.times_comm (whole (pos root)) zero ∙ zero_times (whole (pos root))) in
    let sums : Parts.sum_fits zero zero ≡ true = sum_right zero zero_shown in
    and-in _ _ (and-in _ _ (and-in _ _ (and-in _ _ (and-in _ _ (and-in _ _ (product_left y.a) (product_left y.b))
    (subst (λ q. Parts.product_fits (whole (pos root)) q ≡ true) (sym none_b) (product_right (whole (pos root)))))
    (ap₂ Parts.sum_fits none_a scaled ∙ sums))
    (product_left y.b)) (product_left y.a))
    (ap₂ Parts.sum_fits none_b none_a ∙ sums)
