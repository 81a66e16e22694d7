-- Whether a rational is whole, or a multiple of a whole number, can be told.
use Rattle.std.proofs.Common.{◌≡◌, ℕ, zero, suc, ◌*◌, ◌%◌, ◌⊎◌, inl, inr, refl, sym, ap, ◌∙◌, subst, arith}
use Rattle.std.specs.Prelude.{ℤ, pos, negsuc, ◌*ℤ◌, ◌<ℤ◌, unsigned_abs, int_div}
use Rattle.std.specs.Int.{◌∣◌}
use Rattle.std.proofs.lemmas.Int.{ints, unsigned_abs-mul}
use Rattle.std.proofs.lemmas.Nat.Gcd.{dvd_of_mod-eq-zero, mod-eq-zero_of_dvd}
use Rattle.std.proofs.Math.Nat.{dvd-mul_right}
use Rattle.drg_algebra.specs.Ring.{◌⊗◌}
use Rattle.drg_algebra.specs.Integer.{integers, ring3}
use Rattle.drg_algebra.specs.Rational.{ℚ, whole}
use Rattle.drg_algebra.specs.Ratio.{ratio, one_above, ratio_one, ratio_same, same_ratio, div_exact}
use Rattle.drg_algebra.specs.Reduced.{numerator, denominator, denominator_above, ratio_of_parts, abs_pos}
use Rattle.drg_algebra.proofs.WholeParts.{same_whole}
use Rattle.drg_array.specs.Numbers.{IsWhole, IsWholeMultiple, IsNatural}

-- num / k is n times q where num is n k times q
multiple : (n k : ℕ) (num den q : ℤ) → pos 0 <ℤ den → den ≡ pos k → pos (n * k) *ℤ q ≡ num → ratio num den ≡ whole (pos n *ℤ q)
multiple n k num den q above is e =
    let cross : num *ℤ pos 1 ≡ (pos n *ℤ q) *ℤ den =
    rw (is, ← e) (omega (arith, ints, ring3 integers (λ n k q. (n ⊗ k) ⊗ q) (λ n k q. (n ⊗ q) ⊗ k) refl (pos n) (pos k) q)) in
    ratio_same num den (pos n *ℤ q) (pos 1) above one_above cross ∙ ratio_one (pos n *ℤ q)

divides : (n k : ℕ) (num den m : ℤ) → pos 0 <ℤ den → den ≡ pos k → ratio num den ≡ whole (pos n *ℤ m) → unsigned_abs num % (n * k) ≡ 0
divides n k num den m above is e =
    let cross : num *ℤ pos 1 ≡ (pos n *ℤ m) *ℤ den = same_ratio num den (pos n *ℤ m) (pos 1) above one_above (e ∙ sym (ratio_one (pos n *ℤ m))) in
    let whole_num : num ≡ (pos n *ℤ m) *ℤ pos k = omega (arith, ints, cross, ap (λ z. (pos n *ℤ m) *ℤ z) is) in
    let size : unsigned_abs num ≡ (n * k) * unsigned_abs m =
    ap unsigned_abs whole_num ∙ (unsigned_abs-mul (pos n *ℤ m) (pos k) ∙ (ap (λ z. z * k) (unsigned_abs-mul (pos n) m) ∙ omega arith)) in
    mod-eq-zero_of_dvd (n * k) (subst (λ z. n * k ∣ z) (sym size) (dvd-mul_right (n * k) (unsigned_abs m)))

pub multiple_told : (n : ℕ) (x : ℚ) → IsWholeMultiple n x ⊎ ¬ IsWholeMultiple n x
multiple_told n x = go (unsigned_abs (numerator x) % (n * k)) refl
  where
    k : ℕ
    k = unsigned_abs (denominator x)

    is : denominator x ≡ pos k
    is = sym (abs_pos (denominator x) (denominator_above x))

    go : (r : ℕ) → unsigned_abs (numerator x) % (n * k) ≡ r → IsWholeMultiple n x ⊎ ¬ IsWholeMultiple n x
    go zero e =
        let q = int_div (numerator x) (pos (n * k)) in
        inl (q, sym (ratio_of_parts x) ∙ multiple n k (numerator x) (denominator x) q (denominator_above x) is (div_exact (numerator x) (n * k) (dvd_of_mod-eq-zero (n * k) e)))
    go (suc r) e =
        inr (λ (m, h). (let zero_rest = divides n k (numerator x) (denominator x) m (denominator_above x) is (ratio_of_parts x ∙ h) in absurd (omega (arith, e, zero_rest))))

pub natural_told : (x : ℚ) → IsNatural x ⊎ ¬ IsNatural x
natural_told x = go (multiple_told 1 x)
  where
    by_sign : (m : ℤ) → x ≡ whole m → IsNatural x ⊎ ¬ IsNatural x
    by_sign (pos n) e = inl (n, e)
    by_sign (negsuc n) e = inr (λ (j, h). (let same : pos j ≡ negsuc n = same_whole (pos j) (negsuc n) (sym h ∙ e) in cc))

    go : IsWhole x ⊎ ¬ IsWhole x → IsNatural x ⊎ ¬ IsNatural x
    go (inl (m, e)) = by_sign m (e ∙ ap whole (omega (arith, ints)))
    go (inr no_whole) = inr (λ (j, h). no_whole (pos j, h ∙ ap whole (omega (arith, ints))))
