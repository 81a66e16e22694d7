-- Whole quotients by divisors of either sign, rounded up and down.
use Rattle.std.specs.Prelude.{ℤ, pos, neg_ℤ, int_lt, if◌then◌else◌}
use Rattle.drg_whole.specs.Division.{floor_of, ceiling_of}

-- m/a rounded up; a isn't 0
unfoldable pub ceiling : ℤ → ℤ → ℤ
ceiling m a = if int_lt (pos 0) a then ceiling_of m a else ceiling_of (neg_ℤ m) (neg_ℤ a)

-- m/a rounded down; a isn't 0
unfoldable pub floor : ℤ → ℤ → ℤ
floor m a = if int_lt (pos 0) a then floor_of m a else floor_of (neg_ℤ m) (neg_ℤ a)
