-- Sums and products of whole numbers and with 0, and squares: their work numbers and values without a common divisor.
use Rattle.std.proofs.Common.{◌≡◌, ◌<ℤ◌, ℤ, pos, unsigned_abs, int_div, Bool, true, ◌&&◌, [], ◌∷◌, ap, ap₂, sym, ◌∙◌, arith}
use Rattle.std.specs.Prelude.{◌+ℤ◌, ◌*ℤ◌}
use Rattle.std.proofs.lemmas.Int.{ints}
use Rattle.drg_algebra.specs.Rational.{ℚ, whole, plus, times, rationals}
use Rattle.drg_algebra.specs.Ratio.{ratio, ratio_one, times_ratio}
use Rattle.drg_algebra.specs.Reduced.{common, by_one}
use Rattle.drg_algebra.proofs.Maps.{whole_map}
use Rattle.drg_algebra.proofs.WholeParts.{whole_reduced, one_reduced, zero_times, zero_ratio, zero_over_one, divisor_of_zero, divided_by_itself, zero_divided}
use Rattle.drg_whole.specs.Range.{InRange, in_range}
use Rattle.drg_whole.proofs.Ranges.{fits}
use Rattle.drg_fraction.specs.Work.{all_fit, sum_work, product_work}

-- the tests of four numbers, of which one decides
all_four : (u v x y : ℤ) → InRange u → InRange v → InRange y → all_fit (u ∷ v ∷ x ∷ y ∷ []) ≡ in_range x
all_four u v x y h k l = rw (fits u h, fits v k, fits y l) (go (in_range x))
  where
    go : (t : Bool) → (t && true) ≡ t
    go t = search arith

small : InRange (pos 1)
small = omega arith

nothing : InRange (pos 0)
nothing = omega arith

nil_ratio : (a b : ℤ) → a ≡ pos 0 → pos 0 <ℤ b → ratio a b ≡ whole (pos 0)
nil_ratio a b e h = ap (λ n. ratio n b) e ∙ zero_ratio b h

-- ---- sums
whole_sum_work : (a c : ℤ) → sum_work a (pos 1) c (pos 1) ≡ a ∷ c ∷ (a +ℤ c) ∷ pos 1 ∷ []
whole_sum_work a c =
    ap (λ g. (a *ℤ int_div (pos 1) (pos g)) ∷ (c *ℤ int_div (pos 1) (pos g)) ∷ (a *ℤ int_div (pos 1) (pos g) +ℤ c *ℤ int_div (pos 1) (pos g)) ∷ (pos 1 *ℤ int_div (pos 1) (pos g)) ∷ []) (whole_reduced (pos 1))
    ∙ ap₂ (λ x y. x ∷ y ∷ (x +ℤ y) ∷ pos 1 ∷ []) (once a) (once c)
  where
    once : (a : ℤ) → a *ℤ pos 1 ≡ a
    once a = omega (arith, ints)

pub whole_sum_fits : (a b c d : ℤ) → b ≡ pos 1 → d ≡ pos 1 → InRange a → InRange c → all_fit (sum_work a b c d) ≡ in_range (a +ℤ c)
whole_sum_fits a b c d e f h k = ap₂ (λ x y. all_fit (sum_work a x c y)) e f ∙ ap all_fit (whole_sum_work a c) ∙ all_four a c (a +ℤ c) (pos 1) h k small

pub whole_sum_is : (a b c d : ℤ) → b ≡ pos 1 → d ≡ pos 1 → whole (a +ℤ c) ≡ plus (ratio a b) (ratio c d)
whole_sum_is a b c d e f = whole_map.plus a c ∙ sym (ap₂ plus (ap (ratio a) e ∙ ratio_one a) (ap (ratio c) f ∙ ratio_one c))

zero_left_work : (c d : ℤ) → sum_work (pos 0) (pos 1) c d ≡ pos 0 ∷ c ∷ c ∷ d ∷ []
zero_left_work c d =
    ap (λ g. (pos 0 *ℤ int_div d (pos g)) ∷ (c *ℤ int_div (pos 1) (pos g)) ∷ (pos 0 *ℤ int_div d (pos g) +ℤ c *ℤ int_div (pos 1) (pos g)) ∷ (pos 1 *ℤ int_div d (pos g)) ∷ []) (one_reduced d)
    ∙ ap (λ x. (pos 0 *ℤ x) ∷ (c *ℤ pos 1) ∷ (pos 0 *ℤ x +ℤ c *ℤ pos 1) ∷ (pos 1 *ℤ x) ∷ []) (by_one d)
    ∙ ap₂ (λ x y. x ∷ y ∷ (x +ℤ y) ∷ (pos 1 *ℤ d) ∷ []) (none_of d) (once c)
    ∙ ap₂ (λ x y. pos 0 ∷ c ∷ x ∷ y ∷ []) (after_zero c) (first d)
  where
    once : (a : ℤ) → a *ℤ pos 1 ≡ a
    once a = omega (arith, ints)

    first : (a : ℤ) → pos 1 *ℤ a ≡ a
    first a = omega (arith, ints)

    none_of : (a : ℤ) → pos 0 *ℤ a ≡ pos 0
    none_of a = omega (arith, ints)

    after_zero : (a : ℤ) → pos 0 +ℤ a ≡ a
    after_zero a = omega (arith, ints)

pub zero_left_fits : (a b c d : ℤ) → a ≡ pos 0 → pos 0 <ℤ b → common a b ≡ 1 → InRange c → InRange d → all_fit (sum_work a b c d) ≡ true
zero_left_fits a b c d e h r k l =
    ap₂ (λ x y. all_fit (sum_work x y c d)) e (zero_over_one a b e h r) ∙ ap all_fit (zero_left_work c d) ∙ all_four (pos 0) c c d nothing k l ∙ fits c k

pub zero_left_is : (a b : ℤ) (q : ℚ) → a ≡ pos 0 → pos 0 <ℤ b → q ≡ plus (ratio a b) q
zero_left_is a b q e h = sym (ap (λ x. plus x q) (nil_ratio a b e h) ∙ rationals.plus_comm (whole (pos 0)) q ∙ rationals.plus_nil q)

zero_right_work : (a b : ℤ) → sum_work a b (pos 0) (pos 1) ≡ a ∷ pos 0 ∷ a ∷ b ∷ []
zero_right_work a b =
    ap (λ g. (a *ℤ int_div (pos 1) (pos g)) ∷ (pos 0 *ℤ int_div b (pos g)) ∷ (a *ℤ int_div (pos 1) (pos g) +ℤ pos 0 *ℤ int_div b (pos g)) ∷ (b *ℤ int_div (pos 1) (pos g)) ∷ []) (whole_reduced b)
    ∙ ap₂ (λ x y. x ∷ y ∷ (x +ℤ y) ∷ (b *ℤ pos 1) ∷ []) (once a) (none_of (int_div b (pos 1)))
    ∙ ap₂ (λ x y. a ∷ pos 0 ∷ x ∷ y ∷ []) (before_zero a) (once b)
  where
    once : (a : ℤ) → a *ℤ pos 1 ≡ a
    once a = omega (arith, ints)

    none_of : (a : ℤ) → pos 0 *ℤ a ≡ pos 0
    none_of a = omega (arith, ints)

    before_zero : (a : ℤ) → a +ℤ pos 0 ≡ a
    before_zero a = omega (arith, ints)

pub zero_right_fits : (a b c d : ℤ) → c ≡ pos 0 → pos 0 <ℤ d → common c d ≡ 1 → InRange a → InRange b → all_fit (sum_work a b c d) ≡ true
zero_right_fits a b c d e h r k l =
    ap₂ (λ x y. all_fit (sum_work a b x y)) e (zero_over_one c d e h r) ∙ ap all_fit (zero_right_work a b) ∙ all_four a (pos 0) a b k nothing l ∙ fits a k

pub zero_right_is : (c d : ℤ) (q : ℚ) → c ≡ pos 0 → pos 0 <ℤ d → q ≡ plus q (ratio c d)
zero_right_is c d q e h = sym (ap (plus q) (nil_ratio c d e h) ∙ rationals.plus_nil q)

-- ---- products
all_two : (x y : ℤ) → InRange y → all_fit (x ∷ y ∷ []) ≡ in_range x
all_two x y h = rw (fits y h) (go (in_range x))
  where
    go : (t : Bool) → (t && true) ≡ t
    go t = search arith

whole_product_work : (a c : ℤ) → product_work a (pos 1) c (pos 1) ≡ (a *ℤ c) ∷ pos 1 ∷ []
whole_product_work a c =
    ap₂ (λ g h. (int_div a (pos g) *ℤ int_div c (pos h)) ∷ (int_div (pos 1) (pos h) *ℤ int_div (pos 1) (pos g)) ∷ []) (whole_reduced a) (whole_reduced c)
    ∙ ap₂ (λ x y. (x *ℤ y) ∷ pos 1 ∷ []) (by_one a) (by_one c)

pub whole_product_fits : (a b c d : ℤ) → b ≡ pos 1 → d ≡ pos 1 → all_fit (product_work a b c d) ≡ in_range (a *ℤ c)
whole_product_fits a b c d e f = ap₂ (λ x y. all_fit (product_work a x c y)) e f ∙ ap all_fit (whole_product_work a c) ∙ all_two (a *ℤ c) (pos 1) small

pub whole_product_is : (a b c d : ℤ) → b ≡ pos 1 → d ≡ pos 1 → whole (a *ℤ c) ≡ times (ratio a b) (ratio c d)
whole_product_is a b c d e f = whole_map.times a c ∙ sym (ap₂ times (ap (ratio a) e ∙ ratio_one a) (ap (ratio c) f ∙ ratio_one c))

zero_by_any_work : (c d : ℤ) → pos 0 <ℤ d → product_work (pos 0) (pos 1) c d ≡ pos 0 ∷ pos 1 ∷ []
zero_by_any_work c d h =
    ap₂ (λ g f. (int_div (pos 0) (pos g) *ℤ int_div c (pos f)) ∷ (int_div (pos 1) (pos f) *ℤ int_div d (pos g)) ∷ []) (divisor_of_zero d) (whole_reduced c)
    ∙ ap₂ (λ x y. (x *ℤ int_div c (pos 1)) ∷ (pos 1 *ℤ y) ∷ []) (zero_divided (unsigned_abs d)) (divided_by_itself d h)
    ∙ ap (λ x. x ∷ pos 1 ∷ []) (none_of (int_div c (pos 1)))
  where
    none_of : (m : ℤ) → pos 0 *ℤ m ≡ pos 0
    none_of m = omega (arith, ints)

any_by_zero_work : (a b : ℤ) → pos 0 <ℤ b → product_work a b (pos 0) (pos 1) ≡ pos 0 ∷ pos 1 ∷ []
any_by_zero_work a b h =
    ap₂ (λ g f. (int_div a (pos g) *ℤ int_div (pos 0) (pos f)) ∷ (int_div b (pos f) *ℤ int_div (pos 1) (pos g)) ∷ []) (whole_reduced a) (divisor_of_zero b)
    ∙ ap₂ (λ x y. (int_div a (pos 1) *ℤ x) ∷ (y *ℤ pos 1) ∷ []) (zero_divided (unsigned_abs b)) (divided_by_itself b h)
    ∙ ap (λ x. x ∷ pos 1 ∷ []) (none_of (int_div a (pos 1)))
  where
    none_of : (m : ℤ) → m *ℤ pos 0 ≡ pos 0
    none_of m = omega (arith, ints)

zero_fits : all_fit (pos 0 ∷ pos 1 ∷ []) ≡ true
zero_fits = all_two (pos 0) (pos 1) small ∙ fits (pos 0) nothing

pub zero_by_any_fits : (a b c d : ℤ) → a ≡ pos 0 → pos 0 <ℤ b → common a b ≡ 1 → pos 0 <ℤ d → all_fit (product_work a b c d) ≡ true
zero_by_any_fits a b c d e h r k = ap₂ (λ x y. all_fit (product_work x y c d)) e (zero_over_one a b e h r) ∙ ap all_fit (zero_by_any_work c d k) ∙ zero_fits

pub any_by_zero_fits : (a b c d : ℤ) → c ≡ pos 0 → pos 0 <ℤ d → common c d ≡ 1 → pos 0 <ℤ b → all_fit (product_work a b c d) ≡ true
any_by_zero_fits a b c d e h r k = ap₂ (λ x y. all_fit (product_work a b x y)) e (zero_over_one c d e h r) ∙ ap all_fit (any_by_zero_work a b k) ∙ zero_fits

pub zero_by_any_is : (a b : ℤ) (q : ℚ) → a ≡ pos 0 → pos 0 <ℤ b → ratio a b ≡ times (ratio a b) q
zero_by_any_is a b q e h =
    let zero = nil_ratio a b e h in
    zero ∙ sym (zero_times q) ∙ ap (λ x. times x q) (sym zero)

pub any_by_zero_is : (c d : ℤ) (q : ℚ) → c ≡ pos 0 → pos 0 <ℤ d → ratio c d ≡ times q (ratio c d)
any_by_zero_is c d q e h = zero_by_any_is c d q e h ∙ rationals.times_comm (ratio c d) q

-- ---- squares
square_work : (a b : ℤ) → common a b ≡ 1 → product_work a b a b ≡ (a *ℤ a) ∷ (b *ℤ b) ∷ []
square_work a b r =
    ap (λ g. (int_div a (pos g) *ℤ int_div a (pos g)) ∷ (int_div b (pos g) *ℤ int_div b (pos g)) ∷ []) r
    ∙ ap₂ (λ x y. (x *ℤ x) ∷ (y *ℤ y) ∷ []) (by_one a) (by_one b)

pub square_fits : (a b : ℤ) → common a b ≡ 1 → all_fit (product_work a b a b) ≡ all_fit ((a *ℤ a) ∷ (b *ℤ b) ∷ [])
square_fits a b r = ap all_fit (square_work a b r)

pub square_is : (a b : ℤ) → pos 0 <ℤ b → ratio (a *ℤ a) (b *ℤ b) ≡ times (ratio a b) (ratio a b)
square_is a b h = sym (times_ratio a b a b h h)
