-- Greatest common divisors and squarefree parts.
use Rattle.std.proofs.Common.{◌≡◌, ℕ, zero, suc, ◌*◌, ◌/◌, ◌<◌, refl, ap, ap₂, sym, ◌∙◌, subst, subst₂, arith}
use Rattle.std.specs.Int.{◌∣◌}
use Rattle.std.proofs.lemmas.Nat.Gcd.{IsGcd-swap, same_from_IsGcd, dvd_trans, dvd-zero}
use Rattle.std.proofs.Math.Nat.{eq-one_of_dvd-one}
use native.Mathlib.Nat.{mul_comm, mul-div_cancel', dvd-mul_left, pos_of_dvd_of_pos, eq_of_mul-eq-mul_left, mul-pos}
use Rattle.drg_algebra.specs.Gcd.{gcd_of, gcd_is, gcd_zero, gcd_times, some_factor, divided_coprime, euclids_lemma}
use Rattle.drg_algebra.specs.Root.{IsSquarefree, no_square_ratio}
use Rattle.drg_algebra.specs.DivisorLaws.{GcdIsGreatest, GcdCommutes, GcdScales, EuclidsLemma, CoprimeToProduct, OneSquarefreePart, NoSquareOfQuotient}

pub gcd_is_greatest : GcdIsGreatest
gcd_is_greatest = gcd_is

pub gcd_commutes : GcdCommutes
gcd_commutes a b = same_from_IsGcd a b (gcd_of a b) (gcd_of b a) (gcd_is a b) (IsGcd-swap b a (gcd_of b a) (gcd_is b a))

pub gcd_scales : GcdScales
gcd_scales zero a b =
    let left : 0 * a ≡ 0 = omega arith in
    let right : 0 * b ≡ 0 = omega arith in
    ap₂ gcd_of left right ∙ gcd_zero 0 ∙ omega arith
gcd_scales (suc c) a b = gcd_times (suc c) a b (omega arith)

pub euclids_lemma_holds : EuclidsLemma
euclids_lemma_holds d a zero e h = dvd-zero d
euclids_lemma_holds d a (suc b) e h = euclids_lemma d a (suc b) (omega arith) e h

pub coprime_to_product : CoprimeToProduct
coprime_to_product a b c ab ac =
    let g = gcd_of a (b * c) in
    let k = gcd_of b g in
    let k_left : k ∣ a = dvd_trans k (gcd_is b g).1 (gcd_is a (b * c)).0 in
    let k_one : k ≡ 1 = eq-one_of_dvd-one (subst (λ (x : ℕ). k ∣ x) ab ((gcd_is a b).2 k k_left (gcd_is b g).0)) in
    let swapped : g ∣ c * b = subst (λ (x : ℕ). g ∣ x) (mul_comm b c) (gcd_is a (b * c)).1 in
    let g_right : g ∣ c = euclids_lemma_holds g b c k_one swapped in
    eq-one_of_dvd-one (subst (λ (x : ℕ). g ∣ x) ac ((gcd_is a c).2 g (gcd_is a (b * c)).0 g_right))

-- f² D = g² E with f and g coprime: f² divides E
one_part : (f g d e : ℕ) → IsSquarefree e → 0 < f → gcd_of f g ≡ 1 → (f * f) * d ≡ (g * g) * e → f ≡ 1
one_part f g d e free some coprime h =
    let first : gcd_of (g * g) f ≡ 1 = gcd_commutes (g * g) f ∙ coprime_to_product f g g coprime coprime in
    let both : gcd_of (g * g) (f * f) ≡ 1 = coprime_to_product (g * g) f f first first in
    let divides : f * f ∣ e * (g * g) = subst (λ (x : ℕ). f * f ∣ x) (mul_comm d (f * f) ∙ h ∙ mul_comm (g * g) e) (dvd-mul_left (f * f) d) in
    at f some (euclids_lemma_holds (f * f) (g * g) e both divides)
  where
    at : (f : ℕ) → 0 < f → f * f ∣ e → f ≡ 1
    at zero k q = omega arith
    at (suc zero) k q = refl
    at (suc (suc f)) k q = absurd (free.free (suc (suc f)) (omega arith) q)

pub one_squarefree_part : OneSquarefreePart
one_squarefree_part f g d e df ef fp gp h =
    let k = gcd_of f g in
    let p : 0 < k = pos_of_dvd_of_pos (gcd_is f g).1 gp in
    let a = f / k in
    let b = g / k in
    let ka : k * a ≡ f = mul-div_cancel' k (gcd_is f g).0 in
    let kb : k * b ≡ g = mul-div_cancel' k (gcd_is f g).1 in
    let coprime : gcd_of a b ≡ 1 = divided_coprime f g gp in
    let big : (k * k) * ((a * a) * d) ≡ (k * k) * ((b * b) * e) =
    subst₂ (λ (x y : ℕ). (x * x) * d ≡ (y * y) * e → (k * k) * ((a * a) * d) ≡ (k * k) * ((b * b) * e)) ka kb (λ q. omega (arith, q)) h in
    let small : (a * a) * d ≡ (b * b) * e = eq_of_mul-eq-mul_left (k * k) (mul-pos p p) _ _ big in
    let a_one : a ≡ 1 = one_part a b d e ef (some_factor a k f ka fp) coprime small in
    let b_one : b ≡ 1 = one_part b a e d df (some_factor b k g kb gp) (gcd_commutes b a ∙ coprime) (sym small) in
    let same : (a * a) * d ≡ (b * b) * e → d ≡ e = rw (a_one, b_one) (λ q. omega (arith, q)) in
    (sym ka ∙ ap (λ (x : ℕ). k * x) (a_one ∙ sym b_one) ∙ kb, same small)

pub no_square_of_quotient : NoSquareOfQuotient
no_square_of_quotient n free a (suc b) e = absurd (no_square_ratio n a (suc b) free (omega arith) e)
no_square_of_quotient n free zero zero e = (refl, refl)
no_square_of_quotient n free (suc a) zero e = absurd (omega (arith, e))
