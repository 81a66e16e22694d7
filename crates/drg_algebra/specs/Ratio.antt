-- The rational of a numerator and a denominator, and exact division.
use Rattle.std.proofs.Common.{◌≡◌, ℕ, zero, suc, ◌*◌, ◌/◌, ◌<◌, refl, ap, ap₂, sym, ◌∙◌, arith, ℤ, pos, negsuc}
use Rattle.std.specs.Prelude.{◌+ℤ◌, ◌*ℤ◌, neg_ℤ, ◌<ℤ◌, unsigned_abs, int_div}
use Rattle.std.specs.Int.{◌∣◌}
use Rattle.std.proofs.lemmas.Int.{ints}
use native.Mathlib.Nat.{mul-div_cancel'}
use borrow.Author.Differences.{up, down, product_is, same_in, neg_is}
use mathlib.Core.Quot.Quotient.{mk, sound, exact, lift₂}
use Rattle.drg_algebra.specs.Integer.{above_times, suc_above}
use Rattle.drg_algebra.specs.Gcd.{some_factor}
use Rattle.drg_algebra.specs.Rational.{cross_prop, pairs, ℚ, whole, plus, times}

-- n / d: 0 where d is 0, and -n / -d where d is negative
unfoldable pub ratio : ℤ → ℤ → ℚ
ratio n (pos zero) = whole (pos 0)
ratio n (pos (suc k)) = mk pairs (record { over = n; under = pos (suc k); above = suc_above k })
ratio n (negsuc k) = mk pairs (record { over = neg_ℤ n; under = pos (suc k); above = suc_above k })

-- for a positive d it is the pair of n and d
pub ratio_is : (n d : ℤ) (h : pos 0 <ℤ d) → ratio n d ≡ mk pairs (record { over = n; under = d; above = h })
unfolding ratio
ratio_is n (pos zero) h = absurd (omega (arith, ints))
ratio_is n (pos (suc k)) h = sound pairs refl
ratio_is n (negsuc k) h = absurd (omega (arith, ints))

-- and over 1 it is the whole number
pub one_above : pos 0 <ℤ pos 1
one_above = record { lt = tt }

pub ratio_one : (n : ℤ) → ratio n (pos 1) ≡ whole n
ratio_one n = ratio_is n (pos 1) one_above

-- two ratios are the same exactly where their cross products are
pub ratio_same : (a b c d : ℤ) → pos 0 <ℤ b → pos 0 <ℤ d → a *ℤ d ≡ c *ℤ b → ratio a b ≡ ratio c d
ratio_same a b c d h k e = ratio_is a b h ∙ sound pairs e ∙ sym (ratio_is c d k)

pub same_ratio : (a b c d : ℤ) → pos 0 <ℤ b → pos 0 <ℤ d → ratio a b ≡ ratio c d → a *ℤ d ≡ c *ℤ b
same_ratio a b c d h k e = exact pairs cross_prop (sym (ratio_is a b h) ∙ e ∙ ratio_is c d k)

-- sums and products as of fractions
pub plus_ratio : (a b c d : ℤ) → pos 0 <ℤ b → pos 0 <ℤ d → plus (ratio a b) (ratio c d) ≡ ratio (a *ℤ d +ℤ c *ℤ b) (b *ℤ d)
unfolding plus lift₂
plus_ratio a b c d h k = ap₂ plus (ratio_is a b h) (ratio_is c d k) ∙ sym (ratio_is (a *ℤ d +ℤ c *ℤ b) (b *ℤ d) (above_times b d h k))

pub times_ratio : (a b c d : ℤ) → pos 0 <ℤ b → pos 0 <ℤ d → times (ratio a b) (ratio c d) ≡ ratio (a *ℤ c) (b *ℤ d)
unfolding times lift₂
times_ratio a b c d h k = ap₂ times (ratio_is a b h) (ratio_is c d k) ∙ sym (ratio_is (a *ℤ c) (b *ℤ d) (above_times b d h k))

-- ---- exact division
pub div_abs : (n : ℤ) (g : ℕ) → unsigned_abs (int_div n (pos g)) ≡ unsigned_abs n / g
div_abs (pos n) g = refl
div_abs (negsuc n) g = omega (arith, ints, neg_is (pos (suc n / g)))

pub div_exact : (n : ℤ) (g : ℕ) → g ∣ unsigned_abs n → pos g *ℤ int_div n (pos g) ≡ n
div_exact (pos n) g h = ap pos (mul-div_cancel' g h)
div_exact (negsuc n) g h =
    let e : g * (suc n / g) ≡ suc n = mul-div_cancel' g h in
    let p = product_is (pos g) (neg_ℤ (pos (suc n / g))) in
    let m = neg_is (pos (suc n / g)) in
    let d1 : g * down (neg_ℤ (pos (suc n / g))) ≡ suc n = ap (λ x. g * x) m.1 ∙ e in
    let d0 : g * up (neg_ℤ (pos (suc n / g))) ≡ 0 = ap (λ x. g * x) m.0 ∙ omega arith in
    same_in _ _ (omega arith)

pub div_above : (d : ℤ) (g : ℕ) → pos 0 <ℤ d → g ∣ unsigned_abs d → pos 0 <ℤ int_div d (pos g)
div_above (pos zero) g h k = absurd (omega (arith, ints))
div_above (pos (suc n)) zero h k = absurd (omega (arith, mul-div_cancel' 0 k))
div_above (pos (suc n)) (suc g) h k =
    let e : suc g * (suc n / suc g) ≡ suc n = mul-div_cancel' (suc g) k in
    let some : 0 < suc n / suc g = some_factor (suc n / suc g) (suc g) (suc n) e (omega arith) in
    omega (arith, ints)
div_above (negsuc n) g h k = absurd (omega (arith, ints))
