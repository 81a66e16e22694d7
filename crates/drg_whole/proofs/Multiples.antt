-- The least common multiple, and divisors of 0.
use Rattle.std.proofs.Common.{◌≡◌, ℕ, ◌*◌, ◌/◌, ◌<◌, sym, ap, ◌∙◌, subst}
use Rattle.std.specs.Prelude.{ℤ, pos, unsigned_abs}
use Rattle.std.specs.Int.{◌∣◌}
use Rattle.std.proofs.Math.Nat.{eq-zero_of_zero-dvd, dvd-mul_left, dvd-mul_right, dvd_of_mul-dvd-mul_left, mul-dvd-mul_left}
use native.Mathlib.Nat.{mul-div_cancel', mul_assoc, mul_comm, pos_of_dvd_of_pos}
use Rattle.drg_algebra.specs.Gcd.{gcd_of, gcd_is, divided_coprime}
use Rattle.drg_algebra.proofs.Divisors.{euclids_lemma_holds}
use Rattle.drg_whole.specs.Division.{IsLcm}
use Rattle.drg_whole.proofs.Quotients.{nothing}

pub lcm_is : (a b : ℕ) → 0 < b → IsLcm a b (a / gcd_of a b * b)
lcm_is a b some =
    let g = gcd_of a b in
    let all = gcd_is a b in
    let x = a / g in
    let y = b / g in
    let a_is : g * x ≡ a = mul-div_cancel' g all.0 in
    let b_is : g * y ≡ b = mul-div_cancel' g all.1 in
    let p : 0 < g = pos_of_dvd_of_pos all.1 some in
    let apart : gcd_of x y ≡ 1 = divided_coprime a b some in
    let left : a * y ≡ x * b = ap (λ n. n * y) (sym a_is) ∙ ap (λ n. n * y) (mul_comm g x) ∙ mul_assoc x g y ∙ ap (λ n. x * n) b_is in (
      subst (λ n. a ∣ n) left (dvd-mul_right a y),
      dvd-mul_left b x,
      λ m h k.
          let z = m / a in
          let m_is : a * z ≡ m = mul-div_cancel' a h in
          let parts : g * (z * x) ≡ m = ap (λ n. g * n) (mul_comm z x) ∙ sym (mul_assoc g x z) ∙ ap (λ n. n * z) a_is ∙ m_is in
          let part : y ∣ z * x = dvd_of_mul-dvd-mul_left y p (subst (λ n. n ∣ g * (z * x)) (sym b_is) (subst (λ n. b ∣ n) (sym parts) k)) in
          let found : y ∣ z = euclids_lemma_holds y x z apart part in
          let up : a * y ∣ a * z = mul-dvd-mul_left y a found in
          subst (λ n. x * b ∣ n) m_is (subst (λ n. n ∣ a * z) left up),
    )

-- 0 divides 0 alone
pub zero_divides : (g n : ℤ) → unsigned_abs g ∣ unsigned_abs n → g ≡ pos 0 → n ≡ pos 0
zero_divides g n h e = nothing n (eq-zero_of_zero-dvd (subst (λ (m : ℕ). m ∣ unsigned_abs n) (ap unsigned_abs e) h))
