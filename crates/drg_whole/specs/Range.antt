-- The range of whole numbers, and what an answer that is exact or refused says.
use Rattle.std.specs.Prelude.{◌≡◌, Bool, true, false, nat_lt, ◌<◌, ◌^◌, ℤ, unsigned_abs, Result, Ok, Err}

-- from -(2^127 - 1) to 2^127 - 1
abbrev pub InRange : ℤ → Type 0
InRange z = unsigned_abs z < 2 ^ 127

-- whether z lies from -(2^127 - 1) to 2^127 - 1
abbrev pub in_range : ℤ → Bool
in_range z = nat_lt (unsigned_abs z) (2 ^ 127)

-- The value v where it fits, and a refusal exactly where it doesn't. An answer is read by `value`, and any error is a
-- refusal.
abbrev pub Gives : {A E V : Type 0} → (A → V) → Result A E → Bool → V → Type 0
Gives value (Ok r) fits v = (fits ≡ true) × (value r ≡ v)
Gives value (Err e) fits v = fits ≡ false
