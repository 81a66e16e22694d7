-- A number whose product with f² D is a square, with a squarefree D, is a square times D.
use Rattle.std.proofs.Common.{◌≡◌, ℕ, zero, suc, ◌*◌, ◌/◌, ◌<◌, refl, ap, ap₂, sym, ◌∙◌, subst, arith}
use Rattle.std.specs.Int.{◌∣◌}
use Rattle.std.proofs.lemmas.Nat.{mul-le}
use native.Mathlib.Nat.{mul-one, dvd-mul_right, mul-div_cancel', eq_of_mul-eq-mul_left, pos_of_dvd_of_pos}
use Rattle.drg_algebra.specs.Gcd.{gcd_of, gcd_is, gcd_times, euclids_lemma}
use Rattle.drg_algebra.specs.Root.{IsSquarefree}
use Rattle.drg_algebra.proofs.Divisors.{gcd_commutes, coprime_to_product}

squares_coprime : (n x : ℕ) → gcd_of n x ≡ 1 → gcd_of (n * n) (x * x) ≡ 1
squares_coprime n x h =
    let nx : gcd_of (n * n) x ≡ 1 = gcd_commutes (n * n) x ∙ coprime_to_product x n n (gcd_commutes x n ∙ h) (gcd_commutes x n ∙ h) in
    coprime_to_product (n * n) x x nx nx

one_by_square : (d n : ℕ) → IsSquarefree d → 0 < n → n * n ∣ d → n ≡ 1
one_by_square d zero free h k = absurd (omega arith)
one_by_square d (suc zero) free h k = refl
one_by_square d (suc (suc n)) free h k = absurd (free.free (suc (suc n)) (omega arith) k)

positive_part : (g n m : ℕ) → g * n ≡ m → 0 < m → 0 < n
positive_part g zero m e h = absurd (omega (arith, e))
positive_part g (suc n) m e h = omega arith

-- the same where f D and x are divided by their greatest common divisor g
coprime_part : (d y g n x : ℕ) → IsSquarefree d → 0 < d → 0 < g → 0 < n → gcd_of n x ≡ 1 → ((g * n) * (g * n)) * y ≡ d * ((g * x) * (g * x)) → (m : ℕ) × ((m * m) * d ≡ y)
coprime_part d y g n x free some_d some_g some_n coprime e =
    let scaled : (g * g) * ((n * n) * y) ≡ (g * g) * (d * (x * x)) = omega (arith, e) in
    let square_above : 0 < g * g = omega (arith, mul-le 1 1 g g some_g some_g) in
    let less : (n * n) * y ≡ d * (x * x) = eq_of_mul-eq-mul_left (g * g) square_above _ _ scaled in
    let divides : n * n ∣ d * (x * x) = subst (λ z. n * n ∣ z) less (dvd-mul_right (n * n) y) in
    let one : n ≡ 1 = one_by_square d n free some_n (euclids_lemma (n * n) (x * x) d some_d (gcd_commutes (x * x) (n * n) ∙ squares_coprime n x coprime) divides) in
    let alone : (1 * 1) * y ≡ d * (x * x) = subst (λ z. (z * z) * y ≡ d * (x * x)) one less in
    (x, omega (arith, alone))

pub square_part : (d f y x : ℕ) → IsSquarefree d → 0 < d → 0 < f → x * x ≡ ((f * f) * d) * y → (m : ℕ) × ((m * m) * d ≡ y)
square_part d f y x free some_d some_f e =
    let n = f * d in
    let g = gcd_of (f * d) x in
    let whole : 0 < f * d = omega (arith, mul-le 1 1 f d some_f some_d) in
    let first : gcd_of (f * d) x * (f * d / gcd_of (f * d) x) ≡ f * d = mul-div_cancel' g (gcd_is n x).0 in
    let second : gcd_of (f * d) x * (x / gcd_of (f * d) x) ≡ x = mul-div_cancel' g (gcd_is n x).1 in
    let some_g : 0 < gcd_of (f * d) x = pos_of_dvd_of_pos (gcd_is n x).0 whole in
    let coprime : gcd_of (f * d / gcd_of (f * d) x) (x / gcd_of (f * d) x) ≡ 1 =
    eq_of_mul-eq-mul_left g some_g _ _ (sym (gcd_times g (n / g) (x / g) some_g) ∙ ap₂ gcd_of first second ∙ sym (mul-one g)) in
    let squares : (n * n) * y ≡ d * (x * x) = omega (arith, ap (λ z. d * z) e) in
    coprime_part d y g (n / g) (x / g) free some_d some_g (positive_part g (n / g) n first whole) coprime
    (ap₂ (λ a b. (a * a) * y) first first ∙ squares ∙ ap (λ b. d * (b * b)) (sym second))
