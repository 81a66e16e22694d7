-- Squares are divided out of a number n by the divisors d from 2 on, while d ≤ n / d.
use Rattle.std.proofs.Common.{◌≡◌, ℕ, zero, suc, ◌+◌, ◌*◌, ◌/◌, ◌%◌, ◌<◌, ◌≤◌, ap, subst, ◌⊎◌, inl, inr, arith}
use Rattle.std.specs.Int.{◌∣◌}
use Rattle.std.proofs.lemmas.Bool.{cases_lt}
use Rattle.std.proofs.lemmas.Nat.{mul-le, le-div, div-add-mod'}
use Rattle.std.proofs.lemmas.Nat.Gcd.{dvd_trans, le_of_dvd}
use native.Mathlib.Nat.{dvd-mul_left}
use Rattle.drg_algebra.specs.Root.{IsSquarefree}

-- d ≤ n / d says d² ≤ n
pub square_within : (d n : ℕ) → d ≤ n / d → d * d ≤ n
square_within d n h = omega (arith, mul-le d d (n / d) d h (omega arith), div-add-mod' n d)

pub double_within : (d n : ℕ) → 1 < d → d * d ≤ n → d + d ≤ n
double_within d n big h = omega (arith, mul-le 2 d d d (omega arith) (omega arith))

pub square_above : (d : ℕ) → 1 < d → 1 < d * d
square_above d big = omega (arith, mul-le 2 2 d d (omega arith) (omega arith))

-- ---- a divisor q is divided out
quotient_is : (q n : ℕ) → n % q ≡ 0 → n / q * q ≡ n
quotient_is q n e = omega (arith, div-add-mod' n q)

pub quotient_above : (q n : ℕ) → 0 < n → n % q ≡ 0 → 0 < n / q
quotient_above q n some e = go (n / q) some (quotient_is q n e)
  where
    go : (r : ℕ) → 0 < n → r * q ≡ n → 0 < r
    go zero k h = omega arith
    go (suc r) k h = omega arith

pub quotient_less : (q n : ℕ) → 1 < q → 0 < n → n % q ≡ 0 → n / q < n
quotient_less q n big some e =
    omega (arith, quotient_above q n some e, quotient_is q n e, mul-le (n / q) 2 (n / q) q (omega arith) (omega arith))

-- what a square doesn't divide, its quotients aren't divided by it either
pub none_left : (q n k : ℕ) → n % q ≡ 0 → ¬ (k * k ∣ n) → ¬ (k * k ∣ n / q)
none_left q n k e h p =
    let whole : q * (n / q) ≡ n = omega (arith, quotient_is q n e) in
    h (dvd_trans (k * k) p (subst (λ m. n / q ∣ m) whole (dvd-mul_left (n / q) q)))

times_kept : (f d r n x : ℕ) → r * (d * d) ≡ n → (f * f) * n ≡ x → ((f * d) * (f * d)) * r ≡ x
times_kept f d r n x h e = omega (arith, ap (λ m. (f * f) * m) h)

-- f² n stays where d moves from n to f
pub product_kept : (f d n x : ℕ) → n % (d * d) ≡ 0 → (f * f) * n ≡ x → ((f * d) * (f * d)) * (n / (d * d)) ≡ x
product_kept f d n x h e = times_kept f d (n / (d * d)) n x (quotient_is (d * d) n h) e

below_square : (n : ℕ) → n ≤ n * n
below_square zero = omega arith
below_square (suc n) = omega arith

-- the new f is at most f² n
pub factor_within : (f d n x : ℕ) → d * d ≤ n → (f * f) * n ≡ x → f * d ≤ x
factor_within f d n x h e = omega (arith, mul-le (f * f) (d * d) (f * f) n (omega arith) h, below_square (f * d))

-- ---- the end
none_beyond : (d n k : ℕ) → 0 < d → 0 < n → n / d < d → d ≤ k → ¬ (k * k ∣ n)
none_beyond d n k some above end far p =
    let small : k * k ≤ n = le_of_dvd above p in
    let grown : d * d ≤ k * k = mul-le d d k k far far in
    let within : d ≤ n / d = le-div d n d some (omega arith) in
    omega arith

-- where d² is above n and no smaller divisor has a square that divides n, no square does
pub squarefree_by_trial : (d n : ℕ) → 1 < d → 0 < n → n / d < d → ((k : ℕ) → k < d → 1 < k → ¬ (k * k ∣ n)) → IsSquarefree n
squarefree_by_trial d n big above end tried =
    let some : 0 < d = omega arith in
    record { free = λ k h. go some k h (cases_lt k d) }
  where
    go : 0 < d → (k : ℕ) → 1 < k → (k < d) ⊎ (d ≤ k) → ¬ (k * k ∣ n)
    go some k h (inl l) = tried k l h
    go some k h (inr g) = none_beyond d n k some above end g
