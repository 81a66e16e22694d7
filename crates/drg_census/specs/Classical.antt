-- Classical parameters of an intersection array (Brouwer, Cohen and Neumaier 1989, section 6.1).
use Rattle.std.specs.Prelude.{◌≡◌, ◌≢◌, ℕ, ℤ, zero, suc, ◌≤◌, ◌<◌, pos, negsuc, unsigned_abs}
use Rattle.drg_algebra.specs.Rational.{ℚ, whole, plus, times, minus}
use Rattle.drg_array.specs.Entries.{Entries, diameter, b_at, c_at}

-- x - y
abbrev pub less : ℚ → ℚ → ℚ
less x y = plus x (minus y)

-- What follows x among the numbers [i] to the base b: 1 + b x.
abbrev pub next_bracket : ℚ → ℚ → ℚ
next_bracket b x = plus (whole (pos 1)) (times b x)

-- The number [i] to the base b: [0] is 0, and [i + 1] is 1 + b [i].
abbrev pub bracket : ℚ → ℕ → ℚ
bracket b zero = whole (pos 0)
bracket b (suc i) = next_bracket b (bracket b i)

-- The array has the classical parameters (d, b, alpha, beta): b_i is ([d] - [i]) (beta - alpha [i]), and c_i is
-- [i] (1 + alpha [i-1]).
pub record AreClassicalParameters (a : Entries) (b : ℤ) (alpha beta : ℚ) : Type 0 where
  pub further : (i : ℕ) → i < diameter a → whole (pos (b_at a i))
      ≡ times (less (bracket (whole b) (diameter a)) (bracket (whole b) i)) (less beta (times alpha (bracket (whole b) i)))
  pub nearer : (i : ℕ) → i < diameter a → whole (pos (c_at a (suc i)))
      ≡ times (bracket (whole b) (suc i)) (plus (whole (pos 1)) (times alpha (bracket (whole b) i)))

-- The bases that are tried: from -k to k, without 0 and -1.
pub record IsTried (a : Entries) (b : ℤ) : Type 0 where
  pub small : unsigned_abs b ≤ b_at a 0
  pub not_zero : b ≢ pos 0
  pub not_minus_one : b ≢ negsuc 0
