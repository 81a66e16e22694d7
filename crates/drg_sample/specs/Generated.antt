-- The arrays that are generated from a seed.
use Rattle.std.specs.Prelude.{ℕ, zero, suc, ◌+◌, ◌-◌, ◌*◌, ◌%◌, min, max, List, [], ◌∷◌, map}
use Rattle.std.specs.List.{range_with_len}
use Rattle.drg_array.specs.Entries.{Entries}
use Rattle.drg_sample.specs.Draws.{draw, state_after}

-- The first draw decides whether the diameter is 2 or 3.
abbrev pub drawn_diameter : ℕ → ℕ
drawn_diameter state = 2 + draw state 0 % 2

-- The second draw decides on a valency from 3 to 32.
abbrev pub drawn_valency : ℕ → ℕ
drawn_valency state = 3 + draw state 1 % 30

-- Numbers that fall from a first one: each is by 1, 2 or 3 less than the one before, by a draw, and at least 1.
abbrev pub falling : ℕ → ℕ → ℕ → ℕ
falling state first zero = first
falling state first (suc i) = max 1 (falling state first i - 1 - draw state i % 3)

-- Numbers that rise from 1: each is by 0, 1 or 2 more than the one before, by a draw, and at most this one.
abbrev pub rising : ℕ → ℕ → ℕ → ℕ
rising state most zero = 1
rising state most (suc i) = min most (rising state most i + draw state i % 3)

-- The array that is drawn from a state. The draws after the first two decide on b_1 to b_(d-1), which fall from the valency,
-- and those after them on c_2 to c_d, which rise to the valency at most.
abbrev pub drawn_array : ℕ → Entries
drawn_array state = record {
  b = map (falling (state_after 2 state) (drawn_valency state)) (range_with_len 0 (drawn_diameter state));
  c = map (rising (state_after (1 + drawn_diameter state) state) (drawn_valency state)) (range_with_len 0 (drawn_diameter state));
}

-- An array of diameter d takes 2 d draws.
abbrev pub state_after_array : ℕ → ℕ
state_after_array state = state_after (2 * drawn_diameter state) state

-- As many arrays, each drawn from the state that the one before leaves. The first state is the seed.
abbrev pub generated : ℕ → ℕ → List Entries
generated seed zero = []
generated seed (suc count) = drawn_array seed ∷ generated (state_after_array seed) count
