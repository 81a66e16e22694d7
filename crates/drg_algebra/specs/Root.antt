-- Squarefree numbers: one above 1 is no square of a rational.
use Rattle.std.proofs.Common.{◌≡◌, ℕ, zero, suc, ◌*◌, ◌/◌, ◌<◌, ◌≤◌, refl, ap, sym, ◌∙◌, subst, subst₂, arith, ℤ, pos, negsuc}
use Rattle.std.specs.Prelude.{◌*ℤ◌, unsigned_abs}
use Rattle.std.specs.Int.{◌∣◌}
use Rattle.std.proofs.lemmas.Int.{ints, unsigned_abs-mul}
use Rattle.std.proofs.lemmas.Nat.Gcd.{dvd_refl, le_of_dvd}
use native.Mathlib.Nat.{dvd-mul_left, mul-div_cancel', eq_of_mul-eq-mul_left, pos_of_dvd_of_pos, mul-pos}
use mathlib.Core.Quot.Quotient.{mk, sound, exact, ind₂, lift₂}
use Rattle.drg_algebra.specs.Rational.{Pair, cross_prop, pairs, ℚ, ℚ_set, whole, times}
use Rattle.drg_algebra.specs.Gcd.{gcd_of, gcd_is, some_factor, divided_coprime, euclids_lemma}
use Rattle.drg_algebra.specs.Reduced.{abs_above}

-- no square above 1 divides it
pub record IsSquarefree (n : ℕ) : Type 0 where
  pub free : (k : ℕ) → 1 < k → ¬ (k * k ∣ n)

-- ---- a number that is no square is no square of a quotient
coprime_case : (root n m : ℕ) → ((k : ℕ) → ¬ (k * k ≡ root)) → 0 < m → 0 < n → gcd_of n m ≡ 1 → n * n ≡ root * (m * m) → ⊥
coprime_case root n m free h k coprime e =
    let divides : m ∣ n * n = subst (λ (x : ℕ). m ∣ x) (sym (e ∙ omega arith)) (dvd-mul_left m (root * m)) in
    let once : m ∣ n = euclids_lemma m n n k coprime divides in
    let unit : m ∣ 1 = subst (λ (x : ℕ). m ∣ x) coprime ((gcd_is n m).2 m once (dvd_refl m)) in
    let m1 : m ≤ 1 = le_of_dvd (omega arith) unit in
    let m_is : m ≡ 1 = omega arith in
    free n (e ∙ ap (λ (x : ℕ). root * (x * x)) m_is ∙ omega arith)

pub no_square_ratio : (root n m : ℕ) → ((k : ℕ) → ¬ (k * k ≡ root)) → 0 < m → n * n ≡ root * (m * m) → ⊥
no_square_ratio root n m free h e =
    let g = gcd_of n m in
    let p : 0 < g = pos_of_dvd_of_pos (gcd_is n m).1 h in
    let a = n / g in
    let b = m / g in
    let ga : g * a ≡ n = mul-div_cancel' g (gcd_is n m).0 in
    let gb : g * b ≡ m = mul-div_cancel' g (gcd_is n m).1 in
    let coprime : gcd_of a b ≡ 1 = divided_coprime n m h in
    let big_e : (g * g) * (a * a) ≡ (g * g) * (root * (b * b)) =
    subst₂ (λ (x y : ℕ). x * x ≡ root * (y * y) → (g * g) * (a * a) ≡ (g * g) * (root * (b * b))) ga gb (λ q. omega (arith, q)) e in
    let small_e : a * a ≡ root * (b * b) = eq_of_mul-eq-mul_left (g * g) (mul-pos p p) _ _ big_e in
    let b_some : 0 < b = some_factor b g m gb h in
    coprime_case root a b free b_some (some_left a b root free small_e b_some) coprime small_e
  where
    some_left : (a b root : ℕ) → ((k : ℕ) → ¬ (k * k ≡ root)) → a * a ≡ root * (b * b) → 0 < b → 0 < a
    some_left (suc a) b root free q h = omega arith
    some_left zero zero root free q h = h
    some_left zero (suc b) zero free q h = absurd (free 0 refl)
    some_left zero (suc b) (suc root) free q h =
        absurd (omega (arith, mul-pos {m = suc root} {n = suc b * suc b} (omega arith) (mul-pos {m = suc b} {n = suc b} h h)))

-- ---- a squarefree number above 1 is no square
pub no_square : (root k : ℕ) → IsSquarefree root → 1 < root → ¬ (k * k ≡ root)
no_square root zero s big e = omega arith
no_square root (suc zero) s big e = omega arith
no_square root (suc (suc k)) s big e = s.free (suc (suc k)) (omega arith) (subst (λ (x : ℕ). suc (suc k) * suc (suc k) ∣ x) e (dvd_refl _))

-- ---- a² = D b² for rationals a and b
zero_over : (p : Pair) → unsigned_abs p.over ≡ 0 → mk pairs p ≡ whole (pos 0)
zero_over p z = sound pairs (none_left p.over p.under z)
  where
    none_left : (n d : ℤ) → unsigned_abs n ≡ 0 → n *ℤ pos 1 ≡ pos 0 *ℤ d
    none_left (pos n) d z = omega (arith, ints)
    none_left (negsuc n) d z = absurd (omega arith)

sizes : (root A B C E : ℕ) → IsSquarefree root → 1 < root → 0 < B → 0 < E → (A * E) * (A * E) ≡ root * ((C * B) * (C * B)) → (A ≡ 0) × (C ≡ 0)
sizes root zero B zero E s big h k e = (refl, refl)
sizes root (suc A) B zero E s big h k e =
    let some : 0 < suc A * E = mul-pos (omega arith) k in
    absurd (omega (arith, mul-pos some some))
sizes root A B (suc C) E s big h k e = absurd (no_square_ratio root (A * E) (suc C * B) (λ n. no_square root n s big) (mul-pos (omega arith) h) e)

by_parts : (root : ℕ) → IsSquarefree root → 1 < root → (p q : Pair) → (p.over *ℤ p.over) *ℤ (pos 1 *ℤ (q.under *ℤ q.under))
    ≡ (pos root *ℤ (q.over *ℤ q.over)) *ℤ (p.under *ℤ p.under) → (mk pairs p ≡ whole (pos 0)) × (mk pairs q ≡ whole (pos 0))
by_parts root s big p q e =
    let f = simp unsigned_abs-mul at (ap unsigned_abs e) in
    let z = sizes root (unsigned_abs p.over) (unsigned_abs p.under) (unsigned_abs q.over) (unsigned_abs q.under) s big (abs_above p.under p.above) (abs_above q.under q.above) (omega (arith, f)) in
    (zero_over p z.0, zero_over q z.1)

-- a² = D b² for rationals only at zeros
pub only_zeros : (root : ℕ) → IsSquarefree root → 1 < root → (x y : ℚ) → times x x ≡ times (whole (pos root)) (times y y)
    → (x ≡ whole (pos 0)) × (y ≡ whole (pos 0))
unfolding times lift₂
only_zeros root s big = ind₂ pairs pairs {motive = λ x y. times x x ≡ times (whole (pos root)) (times y y) → (x ≡ whole (pos 0)) × (y ≡ whole (pos 0))}
    (λ x y f g i h. (ℚ_set x (whole (pos 0)) (f h).0 (g h).0 i, ℚ_set y (whole (pos 0)) (f h).1 (g h).1 i))
    (λ p q h. by_parts root s big p q (exact pairs cross_prop h))
