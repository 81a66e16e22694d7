-- The greatest common divisor as a function, and Euclid's lemma.
use Rattle.std.proofs.Common.{◌≡◌, ℕ, zero, suc, ◌+◌, ◌*◌, ◌/◌, ◌%◌, ◌<◌, refl, ap, ap₂, sym, ◌∙◌, subst, arith}
use Rattle.std.specs.Int.{IsGcd, ◌∣◌}
use Rattle.std.proofs.lemmas.Nat.Gcd.{IsGcd-from_zero, IsGcd-from_mod, same_from_IsGcd, le_of_dvd}
use native.Mathlib.Nat.{mod-lt, mod-eq_of_lt, div-add-mod, mul-add-mod_self_left, mul-lt-mul_of_pos_left, mul-one, mul-div_cancel', eq_of_mul-eq-mul_left, pos_of_dvd_of_pos, dvd-mul_left}

-- Euclid's steps, at most as many as the first number says
unfoldable pub euclid : ℕ → ℕ → ℕ → ℕ
euclid zero a b = a
euclid (suc k) a b = elim b [ zero ↦ a | suc m ↦ euclid k (suc m) (a % suc m) ]

-- the greatest common divisor, and 0 of 0 and 0
unfoldable pub gcd_of : ℕ → ℕ → ℕ
gcd_of a b = euclid (suc b) a b

euclid_is : (k a b : ℕ) → b < k → IsGcd a b (euclid k a b)
unfolding euclid
euclid_is zero a b h = absurd (omega arith)
euclid_is (suc k) a zero h = IsGcd-from_zero a 0 refl
euclid_is (suc k) a (suc m) h =
    let small : a % suc m < suc m = mod-lt a (omega arith) in
    IsGcd-from_mod a (suc m) (euclid k (suc m) (a % suc m)) (euclid_is k (suc m) (a % suc m) (omega arith))

-- it divides both, and each divisor of both divides it
pub gcd_is : (a b : ℕ) → IsGcd a b (gcd_of a b)
unfolding gcd_of
gcd_is a b = euclid_is (suc b) a b (omega arith)

pub gcd_zero : (a : ℕ) → gcd_of a 0 ≡ a
unfolding gcd_of euclid
gcd_zero a = refl

pub gcd_step : (a b : ℕ) → gcd_of a b ≡ gcd_of b (a % b)
gcd_step a b = same_from_IsGcd a b _ _ (gcd_is a b) (IsGcd-from_mod a b _ (gcd_is b (a % b)))

times_mod : (c a b : ℕ) → 0 < c → 0 < b → (c * a) % (c * b) ≡ c * (a % b)
times_mod c a b h k =
    let q = div-add-mod a b in
    let parts : c * a ≡ c * b * (a / b) + c * (a % b) = ap (λ n. c * n) (sym q) ∙ omega arith in
    let small : c * (a % b) < c * b = omega (arith, mul-lt-mul_of_pos_left (mod-lt a k) h) in
    ap (λ n. n % (c * b)) parts ∙ mul-add-mod_self_left (c * b) (a / b) (c * (a % b)) ∙ mod-eq_of_lt small

times_is : (k c a b : ℕ) → b < k → 0 < c → IsGcd (c * a) (c * b) (c * gcd_of a b)
times_is zero c a b h p = absurd (omega arith)
times_is (suc k) c a zero h p = rw (gcd_zero a) (IsGcd-from_zero (c * a) (c * 0) (omega arith))
times_is (suc k) c a (suc m) h p =
    let some : 0 < suc m = omega arith in
    let small : a % suc m < suc m = mod-lt a some in
    let below : IsGcd (c * suc m) (c * (a % suc m)) (c * gcd_of (suc m) (a % suc m)) = times_is k c (suc m) (a % suc m) (omega arith) p in
    rw (gcd_step a (suc m)) (IsGcd-from_mod (c * a) (c * suc m) _ (rw (times_mod c a (suc m) p some) below))

-- a common factor of both is a factor of it
pub gcd_times : (c a b : ℕ) → 0 < c → gcd_of (c * a) (c * b) ≡ c * gcd_of a b
gcd_times c a b p = same_from_IsGcd (c * a) (c * b) _ _ (gcd_is (c * a) (c * b)) (times_is (suc b) c a b (omega arith) p)

-- Euclid's lemma
pub euclids_lemma : (d a b : ℕ) → 0 < b → gcd_of a d ≡ 1 → d ∣ b * a → d ∣ b
euclids_lemma d a b some e h =
    let both : d ∣ gcd_of (b * a) (b * d) = (gcd_is (b * a) (b * d)).2 d h (dvd-mul_left d b) in
    let is : gcd_of (b * a) (b * d) ≡ b = gcd_times b a d some ∙ ap (λ n. b * n) e ∙ mul-one b in
    subst (λ n. d ∣ n) is both

-- a factor of a positive product is positive
pub some_factor : (b g m : ℕ) → g * b ≡ m → 0 < m → 0 < b
some_factor zero g m e h = omega arith
some_factor (suc b) g m e h = omega arith

-- both divided by it have no divisor in common
pub divided_coprime : (a b : ℕ) → 0 < b → gcd_of (a / gcd_of a b) (b / gcd_of a b) ≡ 1
divided_coprime a b h =
    let g = gcd_of a b in
    let some : 0 < g = pos_of_dvd_of_pos (gcd_is a b).1 h in
    let left : g * (a / g) ≡ a = mul-div_cancel' g (gcd_is a b).0 in
    let right : g * (b / g) ≡ b = mul-div_cancel' g (gcd_is a b).1 in
    eq_of_mul-eq-mul_left g some _ _ (sym (gcd_times g (a / g) (b / g) some) ∙ ap₂ gcd_of left right ∙ sym (mul-one g))

-- it is below each bound of both numbers
pub gcd_below : (a b m : ℕ) → a < m → b < m → gcd_of a b < m
gcd_below a zero m h k = rw (gcd_zero a) h
gcd_below a (suc b) m h k = omega (arith, le_of_dvd (omega arith) (gcd_is a (suc b)).1)
