-- The work numbers of a comparison of two eigenvalues over one root are small.
use Rattle.std.proofs.Common.{◌≡◌, ℕ, ◌*◌, ◌^◌, ◌<◌, ◌≤◌, true, false, ◌&&◌, refl, ap, ap₂, sym, ◌∙◌, subst, arith, ℤ, pos, if◌then◌else◌}
use Rattle.std.specs.Prelude.{◌+ℤ◌, ◌-ℤ◌, ◌*ℤ◌, neg_ℤ, ◌<ℤ◌, unsigned_abs}
use Rattle.std.proofs.lemmas.Int.{ints, unsigned_abs-mul}
use Rattle.std.proofs.lemmas.Nat.{mul-le}
use Rattle.drg_algebra.specs.Ring.{none, ◌⊕◌, ◌⊗◌, ring2}
use Rattle.drg_algebra.specs.Integer.{above_times}
use Rattle.drg_algebra.specs.Rational.{ℚ, whole, rationals}
use Rattle.drg_algebra.specs.Rational as Rational
use Rattle.drg_algebra.specs.Ratio.{ratio, one_above, ratio_one, ratio_same, plus_ratio, times_ratio}
use Rattle.drg_algebra.proofs.RatioLemmas.{negative_of_ratio}
use Rattle.drg_fraction.specs.Rationals.{rational_operations, rational_laws}
use Rattle.drg_fraction.specs.Work as Parts
use Rattle.drg_quadratic.specs.Values.{Value, IsRoot, plus, minus}
use Rattle.drg_quadratic.specs.Operations.{value_operations}
use Rattle.drg_quadratic.specs.Laws.{value_laws, is_its_parts}
use Rattle.drg_quadratic.specs.Work.{difference_fits, norm_fits, sign_fits, sign_of, are_opposite}
use Rattle.drg_quadratic.specs.Eigenvalue.{eigenvalue_of, difference}
use Rattle.drg_quadratic.specs.EigenvalueFields.{IsValueOf, ComparisonsFit}
use Rattle.drg_quadratic.specs.declared.eigenvalue.Eigenvalue.{Eigenvalue}
use Rattle.drg_quadratic.proofs.EigenvalueFields.{is_embedded}
use Rattle.drg_quadratic.proofs.EigenvalueValues.{value_over}
use Rattle.drg_quadratic.proofs.SmallParts.{IsWithin, ratio_within, whole_within, small_product, small_difference}

two_above : pos 0 <ℤ pos 2
two_above = record { lt = tt }

-- ---- differences
half_within : (n : ℤ) (m : ℕ) → unsigned_abs n ≤ m → IsWithin m 2 (ratio n (pos 2))
half_within n m h = ratio_within n (pos 2) m 2 two_above h (omega arith)

halves_fit : (m n : ℤ) → unsigned_abs m ≤ 65536 → unsigned_abs n ≤ 65536 → Parts.difference_fits (ratio m (pos 2)) (ratio n (pos 2)) ≡ true
halves_fit m n h k = small_difference _ _ 65536 2 65536 2 (half_within m 65536 h) (half_within n 65536 k) (omega arith) (omega arith)

parts_fit : (x y : Eigenvalue) → difference_fits (eigenvalue_of x) (eigenvalue_of y) ≡ true
parts_fit x y = ap₂ (λ a b. a && b) (halves_fit x.s y.s x.small_s y.small_s) (halves_fit x.f y.f x.small_f y.small_f)

-- ---- signs
half_difference : (m n : ℤ) → Rational.plus (ratio m (pos 2)) (Rational.minus (ratio n (pos 2))) ≡ ratio (m -ℤ n) (pos 2)
half_difference m n =
    let cross : (m *ℤ pos 2 +ℤ neg_ℤ n *ℤ pos 2) *ℤ pos 2 ≡ (m -ℤ n) *ℤ (pos 2 *ℤ pos 2) = omega (arith, ints) in
    ap (Rational.plus (ratio m (pos 2))) (negative_of_ratio n (pos 2) two_above)
    ∙ plus_ratio m (pos 2) (neg_ℤ n) (pos 2) two_above two_above
    ∙ ratio_same _ _ (m -ℤ n) (pos 2) (above_times (pos 2) (pos 2) two_above two_above) two_above cross

four_above : pos 0 <ℤ (pos 2 *ℤ pos 2)
four_above = record { lt = tt }

-- n²/4, and root n²/4
square_within : (n : ℤ) → unsigned_abs n ≤ 131072 → IsWithin (131072 * 131072) 4 (ratio (n *ℤ n) (pos 2 *ℤ pos 2))
square_within n h = ratio_within (n *ℤ n) (pos 2 *ℤ pos 2) (131072 * 131072) 4 four_above (rw (unsigned_abs-mul n n) (mul-le (unsigned_abs n) (unsigned_abs n) 131072 131072 h h)) (omega arith)

square_is : (n : ℤ) → Rational.times (ratio n (pos 2)) (ratio n (pos 2)) ≡ ratio (n *ℤ n) (pos 2 *ℤ pos 2)
square_is n = times_ratio n (pos 2) n (pos 2) two_above two_above

rooted : (root : ℕ) (n : ℤ) → Rational.times (whole (pos root)) (ratio (n *ℤ n) (pos 2 *ℤ pos 2)) ≡ ratio (pos root *ℤ (n *ℤ n)) (pos 2 *ℤ pos 2)
rooted root n =
    let cross : pos root *ℤ (n *ℤ n) *ℤ (pos 2 *ℤ pos 2) ≡ pos root *ℤ (n *ℤ n) *ℤ (pos 1 *ℤ (pos 2 *ℤ pos 2)) = refl in
    ap (λ q. Rational.times q (ratio (n *ℤ n) (pos 2 *ℤ pos 2))) (sym (ratio_one (pos root)))
    ∙ times_ratio (pos root) (pos 1) (n *ℤ n) (pos 2 *ℤ pos 2) one_above four_above
    ∙ ratio_same _ _ _ _ (above_times (pos 1) (pos 2 *ℤ pos 2) one_above four_above) four_above cross

rooted_within : (root : ℕ) (n : ℤ) → root < 2 ^ 32 → unsigned_abs n ≤ 131072 → IsWithin (2 ^ 32 * (131072 * 131072)) 4 (ratio (pos root *ℤ (n *ℤ n)) (pos 2 *ℤ pos 2))
rooted_within root n big h =
    let square : unsigned_abs (n *ℤ n) ≤ 131072 * 131072 = rw (unsigned_abs-mul n n) (mul-le (unsigned_abs n) (unsigned_abs n) 131072 131072 h h) in
    ratio_within (pos root *ℤ (n *ℤ n)) (pos 2 *ℤ pos 2) (2 ^ 32 * (131072 * 131072)) 4 four_above
    (rw (unsigned_abs-mul (pos root) (n *ℤ n)) (mul-le root (unsigned_abs (n *ℤ n)) (2 ^ 32) (131072 * 131072) (omega arith) square)) (omega arith)

halves_norm_fits : (root : ℕ) (m n : ℤ) → root < 2 ^ 32 → unsigned_abs m ≤ 131072 → unsigned_abs n ≤ 131072
    → norm_fits root (record { a = ratio m (pos 2); b = ratio n (pos 2) }) ≡ true
halves_norm_fits root m n big h k =
    let a = half_within m 131072 h in
    let b = half_within n 131072 k in
    let aa = subst (IsWithin (131072 * 131072) 4) (sym (square_is m)) (square_within m h) in
    let bb = subst (IsWithin (131072 * 131072) 4) (sym (square_is n)) (square_within n k) in
    let rb = subst (IsWithin (2 ^ 32 * (131072 * 131072)) 4) (sym (ap (Rational.times (whole (pos root))) (square_is n) ∙ rooted root n)) (rooted_within root n big k) in
    let first = small_product _ _ 131072 2 131072 2 a a (omega arith) (omega arith) in
    let second = small_product _ _ 131072 2 131072 2 b b (omega arith) (omega arith) in
    let third = small_product _ _ (2 ^ 32) 1 (131072 * 131072) 4 (whole_within (pos root) (2 ^ 32) (omega arith)) bb (omega arith) (omega arith) in
    let fourth = small_difference _ _ (131072 * 131072) 4 (2 ^ 32 * (131072 * 131072)) 4 aa rb (omega arith) (omega arith) in
    ap₂ (λ p q. p && q) (ap₂ (λ p q. p && q) (ap₂ (λ p q. p && q) first second) third) fourth

difference_size : (m n : ℤ) → unsigned_abs m ≤ 65536 → unsigned_abs n ≤ 65536 → unsigned_abs (m -ℤ n) ≤ 131072
difference_size m n h k = omega (arith, ints)

difference_norm_fits : (root : ℕ) (x y : Eigenvalue) → root < 2 ^ 32 → norm_fits root (difference x y) ≡ true
difference_norm_fits root x y big =
    ap₂ (λ a b. norm_fits root (record { a = a; b = b })) (half_difference x.s y.s) (half_difference x.f y.f)
    ∙ halves_norm_fits root (x.s -ℤ y.s) (x.f -ℤ y.f) big (difference_size x.s y.s x.small_s y.small_s) (difference_size x.f y.f x.small_f y.small_f)

sign_by_norm : (root : ℕ) (z : Value) → norm_fits root z ≡ true → sign_fits root z ≡ true
sign_by_norm root z h =
    elim (are_opposite (sign_of z.a) (sign_of z.b)) as (λ t. (if t then norm_fits root z else true) ≡ true) [ true ↦ h | false ↦ refl ]

-- ---- both fields
value_is : (root : ℕ) (h : IsRoot root) (x : Eigenvalue) (u : Value) → x.root ≡ root → IsValueOf (value_operations root) x u → u ≡ eigenvalue_of x
value_is root h x u e v = is_embedded (value_laws root h) x u v ∙ sym (is_its_parts root (eigenvalue_of x) (λ r. value_over x (e ∙ r)))

pub quadratics_fit : (root : ℕ) → IsRoot root → ComparisonsFit (value_operations root) root
quadratics_fit root h x y u v big e f p q =
    let left = value_is root h x u e p in
    let right = value_is root h y v f q in (
      ap₂ difference_fits left right ∙ parts_fit x y,
      ap₂ (λ a b. sign_fits root (plus a (minus b))) left right ∙ sign_by_norm root (difference x y) (difference_norm_fits root x y big),
    )

rational_is : (x : Eigenvalue) (u : ℚ) → IsValueOf rational_operations x u → u ≡ ratio x.s (pos 2)
rational_is x u v = is_embedded (rational_laws 0 refl) x u v ∙ ring2 rationals (λ a b. a ⊕ b ⊗ none) (λ a b. a) refl (ratio x.s (pos 2)) (ratio x.f (pos 2))

pub fractions_fit : ComparisonsFit rational_operations 0
fractions_fit x y u v big e f p q = (ap₂ Parts.difference_fits (rational_is x u p) (rational_is y v q) ∙ halves_fit x.s y.s x.small_s y.small_s, refl)
