-- The divisors of a number in the code.
use Rattle.std.specs.Prelude.{◌≢◌, ℕ, ℤ, pos, ◌≤◌, ◌<ℤ◌, unsigned_abs, List, [], ◌∷◌, All, Contains}
use Rattle.drg_whole.specs.Division.{Divides}

-- each number is above the next
abbrev pub AreFalling : List ℤ → Type 0
AreFalling [] = Unit {0}
AreFalling (x ∷ []) = Unit {0}
AreFalling (x ∷ y ∷ l) = (y <ℤ x) × AreFalling (y ∷ l)

-- the divisors of a number from m down to -m
pub record AreDivisors (n : ℤ) (m : ℕ) (ts : List ℤ) : Type 0 where
  pub divide : All (λ t. Divides t n × (t ≢ pos 0) × (unsigned_abs t ≤ m)) ts
  pub falling : AreFalling ts
  pub all : (t : ℤ) → Divides t n → unsigned_abs t ≤ m → Contains ts t
