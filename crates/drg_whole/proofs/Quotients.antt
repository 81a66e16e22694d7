-- Quotients toward zero, their remainders, and divisors.
use Rattle.std.proofs.Common.{◌≡◌, ℕ, zero, suc, ◌+◌, ◌*◌, ◌/◌, ◌<◌, refl, sym, ap, ◌∙◌, subst, arith}
use Rattle.std.specs.Prelude.{ℤ, pos, negsuc, neg_ℤ, ◌+ℤ◌, ◌-ℤ◌, ◌*ℤ◌, unsigned_abs, int_div, int_rem}
use Rattle.std.proofs.Math.Nat.{mul-div-le}
use Rattle.std.proofs.lemmas.Int.{ints, unsigned_abs-mul, quot-rem, rem_below}
use borrow.Author.Differences.{neg_is}
use Rattle.drg_algebra.specs.Ring.{◌⊕◌, ◌⊗◌, neg}
use Rattle.drg_algebra.specs.Integer.{integers, ring3}
use Rattle.drg_whole.specs.Division.{IsQuotient, IsRemainder}

pub some : (d : ℤ) → ¬ (d ≡ pos 0) → 0 < unsigned_abs d
some (pos zero) h = absurd (h refl)
some (pos (suc n)) h = omega arith
some (negsuc n) h = omega arith

pub nothing : (z : ℤ) → unsigned_abs z ≡ 0 → z ≡ pos 0
nothing (pos n) h = ap pos h
nothing (negsuc n) h = absurd (omega arith)

-- a multiple of d below d is 0
small : (d m : ℤ) → unsigned_abs (d *ℤ m) < unsigned_abs d → d *ℤ m ≡ pos 0
small d m h = nothing (d *ℤ m) (go (unsigned_abs m) (unsigned_abs-mul d m))
  where
    go : (k : ℕ) → unsigned_abs (d *ℤ m) ≡ unsigned_abs d * k → unsigned_abs (d *ℤ m) ≡ 0
    go zero e = omega (arith, e)
    go (suc k) e = (let f : unsigned_abs d * suc k ≡ unsigned_abs d + unsigned_abs d * k = omega arith in absurd (omega (arith, e, f, h)))

-- what divides leaves nothing
pub no_remainder : (d q n : ℤ) → ¬ (d ≡ pos 0) → d *ℤ q ≡ n → int_rem n d ≡ pos 0
no_remainder d q n apart e =
    let parts = quot-rem n d in
    let below : unsigned_abs (int_rem n d) < unsigned_abs d = rem_below n d (some d apart) in
    let rest : d *ℤ (q +ℤ neg_ℤ (int_div n d)) ≡ d *ℤ q +ℤ neg_ℤ (int_div n d *ℤ d) =
    ring3 integers (λ c q d. c ⊗ (q ⊕ neg d)) (λ c q d. c ⊗ q ⊕ neg (d ⊗ c)) refl d q (int_div n d) in
    let is : d *ℤ (q +ℤ neg_ℤ (int_div n d)) ≡ int_rem n d = omega (arith, ints, parts, rest, e) in
    sym is ∙ small d (q +ℤ neg_ℤ (int_div n d)) (subst (λ z. unsigned_abs z < unsigned_abs d) (sym is) below)

-- what leaves nothing divides
pub divided : (d n : ℤ) → int_rem n d ≡ pos 0 → d *ℤ int_div n d ≡ n
divided d n e = (let parts = quot-rem n d in omega (arith, ints, parts, e))

quotient_size : (n d : ℤ) → unsigned_abs (int_div n d) ≡ unsigned_abs n / unsigned_abs d
quotient_size (pos n) (pos d) = refl
quotient_size (pos n) (negsuc d) = omega (arith, ints, neg_is (pos (n / suc d)))
quotient_size (negsuc n) (pos d) = omega (arith, ints, neg_is (pos (suc n / d)))
quotient_size (negsuc n) (negsuc d) = refl

pub quotient_is : (n d : ℤ) → ¬ (d ≡ pos 0) → IsQuotient n d (int_div n d)
quotient_is n d apart =
    let parts = quot-rem n d in
    let rest : n -ℤ d *ℤ int_div n d ≡ int_rem n d = omega (arith, ints, parts) in
    record {
      near = subst (λ z. unsigned_abs z < unsigned_abs d) (sym rest) (rem_below n d (some d apart));
      no_larger = rw (unsigned_abs-mul d (int_div n d), quotient_size n d) (mul-div-le (unsigned_abs n) (unsigned_abs d));
    }

pub remainder_is : (n d : ℤ) → ¬ (d ≡ pos 0) → IsRemainder n d (int_rem n d)
remainder_is n d apart = (let parts = quot-rem n d in record { quotient = int_div n d; toward_zero = quotient_is n d apart; rest = omega (arith, ints, parts) })
