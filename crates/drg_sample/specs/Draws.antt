-- Draws from a seed: the states of a linear congruential generator, without their low bits.
use Rattle.std.specs.Prelude.{ℕ, zero, suc, ◌+◌, ◌*◌, ◌/◌, ◌%◌, ◌^◌}

-- A draw replaces the state by this one.
abbrev pub next_state : ℕ → ℕ
next_state state = (1103515245 * state + 12345) % 2 ^ 31

-- The state after some draws.
abbrev pub state_after : ℕ → ℕ → ℕ
state_after zero state = state
state_after (suc n) state = state_after n (next_state state)

-- What the n-th draw from a state gives, counted from 0: the state after it, without its lowest 16 bits.
abbrev pub draw : ℕ → ℕ → ℕ
draw state n = state_after (suc n) state / 65536
