-- What a `k` line asks: the sizes of an array, v_0 = 1 and v_i c_i = v_(i-1) b_(i-1).
use Rattle.std.specs.Prelude.{ℕ, suc, nat_le, nat_eq, ℤ, pos, ◌*ℤ◌, ◌+◌, Bool, false, List, [], ◌∷◌, ◌++◌, length, slice_index_or, Option, Some, None, is_none}
use Rattle.std.specs.Ordering.{int_eq}
use Rattle.drg_array.specs.Entries.{Entries, b_at, c_at, diameter}
use Rattle.drg_replay.specs.Steps.{Step, Holds, Fits}
use Rattle.drg_whole.specs.Range.{in_range}
use Rattle.drg_whole.specs.Sums.{sum_from}

-- the numbers of the `k` line, and none where it doesn't stand
abbrev pub values_of : Option (List ℤ) → List ℤ
values_of None = []
values_of (Some values) = values

-- k_i as the line states it, and 0 where it doesn't
abbrev pub size_at : Option (List ℤ) → ℕ → ℤ
size_at sizes i = slice_index_or (values_of sizes) i (pos 0)

-- the line has all sizes from k_0 to k_d
abbrev pub is_full : Entries → Option (List ℤ) → Bool
is_full a sizes = nat_eq (length (values_of sizes)) (diameter a + 1)

-- n, the sum of the stated sizes
abbrev pub vertex_count : Option (List ℤ) → ℤ
vertex_count sizes = sum_from (pos 0) (values_of sizes)

-- k_(i+1) after k_i, which is `last`
abbrev pub next_steps : Entries → ℕ → ℤ → ℤ → List Step
next_steps a i last value =
    Fits (in_range (value *ℤ pos (c_at a (suc i))))
    ∷ Fits (in_range (last *ℤ pos (b_at a i)))
    ∷ Holds (int_eq (value *ℤ pos (c_at a (suc i))) (last *ℤ pos (b_at a i)))
    ∷ []

-- the numbers after k_i, which is `last`
abbrev pub sizes_from : Entries → ℕ → ℤ → List ℤ → List Step
sizes_from a i last [] = []
sizes_from a i last (v ∷ vs) = next_steps a i last v ++ sizes_from a (suc i) v vs

abbrev pub size_steps : Entries → Option (List ℤ) → List ℤ → List Step
size_steps a sizes [] = Holds false ∷ []
size_steps a sizes (v ∷ vs) =
    Holds (is_none sizes)
    ∷ Holds (nat_le (length vs) (diameter a))
    ∷ Holds (int_eq v (pos 1))
    ∷ sizes_from a 0 v vs
