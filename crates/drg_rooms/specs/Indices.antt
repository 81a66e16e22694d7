-- Numbers of a line that are indices.
use Rattle.std.specs.Prelude.{ℕ, ℤ, pos, int_le, Bool, ◌&&◌}

-- from the least one to the limit
abbrev pub is_index : ℕ → ℤ → ℕ → Bool
is_index least n limit = int_le (pos least) n && int_le n (pos limit)
