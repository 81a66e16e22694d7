-- Each rational has one reduced pair.
use Rattle.std.proofs.Common.{◌≡◌, ℕ, suc, ◌*◌, ◌/◌, ◌<◌, ◌≤◌, refl, ap, ap₂, sym, ◌∙◌, subst, arith, ℤ, pos, negsuc}
use Rattle.std.specs.Prelude.{◌*ℤ◌, neg_ℤ, ◌<ℤ◌, unsigned_abs, int_div}
use Rattle.std.specs.Int.{◌∣◌}
use Rattle.std.proofs.lemmas.Int.{ints, unsigned_abs-mul}
use Rattle.std.proofs.lemmas.Nat.Gcd.{dvd_antisymm}
use native.Mathlib.Nat.{mul-div_cancel', mul_comm, mul-one, eq_of_mul-eq-mul_left, div-le_self, dvd-mul_left, pos_of_dvd_of_pos}
use lib.IntN.{ℤ_set}
use lib.Dec.{T_prop}
use lib.Signed.{lt_z}
use mathlib.Core.Quot.Quotient.{sound, ind, lift}
use Rattle.drg_algebra.specs.Ring.{◌⊗◌}
use Rattle.drg_algebra.specs.Integer.{integers, cancel_above, above_times, ring3, ring4}
use Rattle.drg_algebra.specs.Rational.{pairs, ℚ, ℚ_set}
use Rattle.drg_algebra.specs.Gcd.{gcd_of, gcd_is, gcd_times, euclids_lemma}
use Rattle.drg_algebra.specs.Ratio.{ratio, ratio_is, ratio_same, div_abs, div_exact, div_above}

-- the greatest common divisor of n and d, and both divided by it
abbrev pub common : ℤ → ℤ → ℕ
common n d = gcd_of (unsigned_abs n) (unsigned_abs d)

abbrev pub top : ℤ → ℤ → ℤ
top n d = int_div n (pos (common n d))

abbrev pub bottom : ℤ → ℤ → ℤ
bottom n d = int_div d (pos (common n d))

pub abs_above : (d : ℤ) → pos 0 <ℤ d → 0 < unsigned_abs d
abs_above (pos n) h = omega (arith, ints)
abs_above (negsuc n) h = omega arith

pub abs_pos : (d : ℤ) → pos 0 <ℤ d → pos (unsigned_abs d) ≡ d
abs_pos (pos n) h = refl
abs_pos (negsuc n) h = absurd (omega (arith, ints))

pub common_above : (n d : ℤ) → pos 0 <ℤ d → 0 < common n d
common_above n d h = pos_of_dvd_of_pos (gcd_is (unsigned_abs n) (unsigned_abs d)).1 (abs_above d h)

pub top_is : (n d : ℤ) → pos (common n d) *ℤ top n d ≡ n
top_is n d = div_exact n (common n d) (gcd_is (unsigned_abs n) (unsigned_abs d)).0

pub bottom_is : (n d : ℤ) → pos (common n d) *ℤ bottom n d ≡ d
bottom_is n d = div_exact d (common n d) (gcd_is (unsigned_abs n) (unsigned_abs d)).1

pub bottom_above : (n d : ℤ) → pos 0 <ℤ d → pos 0 <ℤ bottom n d
bottom_above n d h = div_above d (common n d) h (gcd_is (unsigned_abs n) (unsigned_abs d)).1

-- after the division no number above 1 divides both
pub reduced : (n d : ℤ) → pos 0 <ℤ d → common (top n d) (bottom n d) ≡ 1
reduced n d h =
    let g = common n d in
    let p = common_above n d h in
    let a : g * unsigned_abs (top n d) ≡ unsigned_abs n = ap (λ x. g * x) (div_abs n g) ∙ mul-div_cancel' g (gcd_is (unsigned_abs n) (unsigned_abs d)).0 in
    let b : g * unsigned_abs (bottom n d) ≡ unsigned_abs d = ap (λ x. g * x) (div_abs d g) ∙ mul-div_cancel' g (gcd_is (unsigned_abs n) (unsigned_abs d)).1 in
    eq_of_mul-eq-mul_left g p _ _ (sym (gcd_times g (unsigned_abs (top n d)) (unsigned_abs (bottom n d)) p) ∙ ap₂ gcd_of a b ∙ sym (mul-one g))

-- two reduced pairs whose cross products agree have one denominator
same_bottom : (n d n' d' : ℤ) → pos 0 <ℤ d → pos 0 <ℤ d' → common n d ≡ 1 → common n' d' ≡ 1 → n *ℤ d' ≡ n' *ℤ d → unsigned_abs d ∣ unsigned_abs d'
same_bottom n d n' d' h h' r r' e =
    let sizes : unsigned_abs n * unsigned_abs d' ≡ unsigned_abs n' * unsigned_abs d = sym (unsigned_abs-mul n d') ∙ ap unsigned_abs e ∙ unsigned_abs-mul n' d in
    let whole_part : unsigned_abs d ∣ unsigned_abs d' * unsigned_abs n = subst (λ x. unsigned_abs d ∣ x) (sym sizes ∙ mul_comm (unsigned_abs n) (unsigned_abs d')) (dvd-mul_left (unsigned_abs d) (unsigned_abs n')) in
    euclids_lemma (unsigned_abs d) (unsigned_abs n) (unsigned_abs d') (abs_above d' h') r whole_part

-- and so they are the same pair
pub one_reduced : (n d n' d' : ℤ) → pos 0 <ℤ d → pos 0 <ℤ d' → common n d ≡ 1 → common n' d' ≡ 1 → n *ℤ d' ≡ n' *ℤ d → (n ≡ n') × (d ≡ d')
one_reduced n d n' d' h h' r r' e =
    let sizes : unsigned_abs d ≡ unsigned_abs d' = dvd_antisymm (same_bottom n d n' d' h h' r r' e) (same_bottom n' d' n d h' h r' r (sym e)) in
    let same : d ≡ d' = sym (abs_pos d h) ∙ ap pos sizes ∙ abs_pos d' h' in
    (cancel_above n n' d' h' (e ∙ ap (λ x. n' *ℤ x) same), same)

-- the division keeps the cross products
pub reduced_cross : (n d : ℤ) → top n d *ℤ d ≡ n *ℤ bottom n d
reduced_cross n d =
    ap (λ x. top n d *ℤ x) (sym (bottom_is n d))
    ∙ ring3 integers (λ t b g. t ⊗ (g ⊗ b)) (λ t b g. (g ⊗ t) ⊗ b) refl (top n d) (bottom n d) (pos (common n d))
    ∙ ap (λ x. x *ℤ bottom n d) (top_is n d)

pub number_above : (k : ℕ) → 0 < k → pos 0 <ℤ pos k
number_above k h = omega (arith, ints)

-- pairs with one cross product are divided to one pair
pub one_top : (n d n' d' : ℤ) → pos 0 <ℤ d → pos 0 <ℤ d' → n *ℤ d' ≡ n' *ℤ d → (top n d ≡ top n' d') × (bottom n d ≡ bottom n' d')
one_top n d n' d' h h' e =
    let g = pos (common n d) in
    let k = pos (common n' d') in
    let some : pos 0 <ℤ (g *ℤ k) = above_times g k (number_above (common n d) (common_above n d h)) (number_above (common n' d') (common_above n' d' h')) in
    let big : (g *ℤ top n d) *ℤ (k *ℤ bottom n' d') ≡ (k *ℤ top n' d') *ℤ (g *ℤ bottom n d) =
    ap₂ ◌*ℤ◌ (top_is n d) (bottom_is n' d') ∙ e ∙ sym (ap₂ ◌*ℤ◌ (top_is n' d') (bottom_is n d)) in
    let cross : top n d *ℤ bottom n' d' ≡ top n' d' *ℤ bottom n d =
    cancel_above _ _ (g *ℤ k) some
    (ring4 integers (λ t b g k. (t ⊗ b) ⊗ (g ⊗ k)) (λ t b g k. (g ⊗ t) ⊗ (k ⊗ b)) refl (top n d) (bottom n' d') g k
    ∙ big
    ∙ ring4 integers (λ t b g k. (k ⊗ t) ⊗ (g ⊗ b)) (λ t b g k. (t ⊗ b) ⊗ (g ⊗ k)) refl (top n' d') (bottom n d) g k) in
    one_reduced _ _ _ _ (bottom_above n d h) (bottom_above n' d' h') (reduced n d h) (reduced n' d' h') cross

-- the reduced numerator and denominator of a rational
unfoldable pub numerator : ℚ → ℤ
numerator = lift pairs ℤ_set (λ p. top p.over p.under) (λ p q e. (one_top p.over p.under q.over q.under p.above q.above e).0)

unfoldable pub denominator : ℚ → ℤ
denominator = lift pairs ℤ_set (λ p. bottom p.over p.under) (λ p q e. (one_top p.over p.under q.over q.under p.above q.above e).1)

pub above_prop : (d : ℤ) → IsProp (pos 0 <ℤ d)
above_prop d h k i = record { lt = T_prop (lt_z (pos 0) d) (h.lt) (k.lt) i }

pub denominator_above : (x : ℚ) → pos 0 <ℤ denominator x
unfolding denominator lift
denominator_above = ind pairs {motive = λ x. pos 0 <ℤ denominator x} (λ x. above_prop (denominator x)) (λ p. bottom_above p.over p.under p.above)

-- division by 1 changes nothing
pub by_one : (n : ℤ) → int_div n (pos 1) ≡ n
by_one (pos n) = ap pos (omega arith)
by_one (negsuc n) = let e : suc n / 1 ≡ suc n = omega arith in ap (λ x. neg_ℤ (pos x)) e

pub numerator_ratio : (n d : ℤ) → pos 0 <ℤ d → common n d ≡ 1 → numerator (ratio n d) ≡ n
unfolding numerator lift
numerator_ratio n d h r = ap numerator (ratio_is n d h) ∙ ap (λ g. int_div n (pos g)) r ∙ by_one n

pub denominator_ratio : (n d : ℤ) → pos 0 <ℤ d → common n d ≡ 1 → denominator (ratio n d) ≡ d
unfolding denominator lift
denominator_ratio n d h r = ap denominator (ratio_is n d h) ∙ ap (λ g. int_div d (pos g)) r ∙ by_one d

pub ratio_of_parts : (x : ℚ) → ratio (numerator x) (denominator x) ≡ x
unfolding numerator denominator lift
ratio_of_parts = ind pairs {motive = λ x. ratio (numerator x) (denominator x) ≡ x} (λ x. ℚ_set _ _)
    (λ p. ratio_is (top p.over p.under) (bottom p.over p.under) (bottom_above p.over p.under p.above) ∙ sound pairs (reduced_cross p.over p.under))

pub one_value : (x y : ℚ) → numerator x ≡ numerator y → denominator x ≡ denominator y → x ≡ y
one_value x y e f = sym (ratio_of_parts x) ∙ ap₂ ratio e f ∙ ratio_of_parts y

-- dividing makes no number larger
pub top_size : (n d : ℤ) → unsigned_abs (top n d) ≤ unsigned_abs n
top_size n d = rw (div_abs n (common n d)) (div-le_self (unsigned_abs n) (common n d))

pub top_ratio : (n d : ℤ) → pos 0 <ℤ d → ratio (top n d) (bottom n d) ≡ ratio n d
top_ratio n d h = ratio_same (top n d) (bottom n d) n d (bottom_above n d h) h (reduced_cross n d)
