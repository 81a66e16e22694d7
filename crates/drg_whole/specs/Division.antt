-- Divisors and multiples of whole numbers, and quotients rounded toward zero, down and up.
use Rattle.std.specs.Prelude.{◌≡◌, ℕ, ℤ, pos, negsuc, ◌<◌, ◌≤◌, ◌*◌, ◌/◌, ◌+ℤ◌, ◌-ℤ◌, ◌*ℤ◌, neg_ℤ, ◌≤ℤ◌, unsigned_abs}
use Rattle.std.specs.Int.{◌∣◌}
use Rattle.drg_algebra.specs.Reduced.{common}

-- d divides n
abbrev pub Divides : ℤ → ℤ → Type 0
Divides d n = (q : ℤ) × (d *ℤ q ≡ n)

-- l is the least common multiple of a and b: it divides each other one
abbrev pub IsLcm : ℕ → ℕ → ℕ → Type 0
IsLcm a b l = (a ∣ l) × (b ∣ l) × ((m : ℕ) → a ∣ m → b ∣ m → l ∣ m)

-- the least common multiple of two whole numbers, which isn't negative
abbrev pub least_multiple : ℤ → ℤ → ℤ
least_multiple a b = pos (unsigned_abs a / common a b * unsigned_abs b)

-- q is n / d, rounded toward zero
pub record IsQuotient (n d q : ℤ) : Type 0 where
  pub near : unsigned_abs (n -ℤ d *ℤ q) < unsigned_abs d
  pub no_larger : unsigned_abs (d *ℤ q) ≤ unsigned_abs n

-- r is what n / d leaves, rounded toward zero
pub record IsRemainder (n d r : ℤ) : Type 0 where
  pub quotient : ℤ
  pub toward_zero : IsQuotient n d quotient
  pub rest : n ≡ d *ℤ quotient +ℤ r

-- for a positive d, q is the greatest whole number that isn't above n / d
pub record IsFloor (n d q : ℤ) : Type 0 where
  pub below : (d *ℤ q) ≤ℤ n
  pub greatest : (m : ℤ) → (d *ℤ m) ≤ℤ n → m ≤ℤ q

-- for a positive d, q is the least whole number that isn't below n / d
pub record IsCeiling (n d q : ℤ) : Type 0 where
  pub above : n ≤ℤ (d *ℤ q)
  pub least : (m : ℤ) → n ≤ℤ (d *ℤ m) → q ≤ℤ m

-- the floor of n / d, for a positive d
abbrev pub floor_of : ℤ → ℤ → ℤ
floor_of (pos n) d = pos (n / unsigned_abs d)
floor_of (negsuc n) d = negsuc (n / unsigned_abs d)

-- the ceiling of n / d, for a positive d
abbrev pub ceiling_of : ℤ → ℤ → ℤ
ceiling_of n d = neg_ℤ (floor_of (neg_ℤ n) d)
