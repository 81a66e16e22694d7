-- What a `krein` line asks, and what those that stand state: the Krein parameters q^h_ij of a frame
-- (Brouwer, Cohen and Neumaier 1989, section 2.3).
use Rattle.std.specs.Prelude.{ℕ, ◌+◌, ℤ, unsigned_abs, nat_eq, Bool, false, ◌&&◌, ◌||◌, not, if◌then◌else◌, List, [], ◌∷◌, ◌++◌}
use Rattle.drg_array.specs.Entries.{Entries, diameter}
use Rattle.drg_fraction.specs.Field.{dot_of, dot_fits}
use Rattle.drg_quadratic.specs.Values.{times}
use Rattle.drg_quadratic.specs.Work.{product_fits}
use Rattle.drg_quadratic.specs.Operations.{value_operations}
use Rattle.drg_replay.specs.Known.{FrameContent, KreinContent}
use Rattle.drg_replay.specs.Steps.{Step, Holds, Fits}
use Rattle.drg_replay.specs.Indices.{is_index}
use Rattle.drg_replay.specs.FieldNumbers.{are_field_numbers, value_at, is_same_value}
use Rattle.drg_replay.specs.Frames.{all_stand, row_values}

-- ---- What the lines state

-- the line is that of i and j
abbrev pub is_of : KreinContent → ℕ → ℕ → Bool
is_of line i j = nat_eq line.i i && nat_eq line.j j

-- a line of i and j stands
abbrev pub krein_stands : List KreinContent → ℕ → ℕ → Bool
krein_stands [] i j = false
krein_stands (line ∷ rest) i j = is_of line i j || krein_stands rest i j

-- its numbers, and none where it doesn't stand
abbrev pub krein_numbers : List KreinContent → ℕ → ℕ → List ℤ
krein_numbers [] i j = []
krein_numbers (line ∷ rest) i j =
    if is_of line i j then line.numbers else krein_numbers rest i j

-- one more line
abbrev pub krein_content : ℕ → ℕ → List ℤ → KreinContent
krein_content i j numbers = record { i = i; j = j; numbers = numbers }

abbrev pub with_krein : FrameContent → ℕ → ℕ → List ℤ → FrameContent
with_krein f i j numbers = record f { krein = f.krein ++ krein_content i j numbers ∷ [] }

-- ---- The `krein` line

-- in this row of Q, Q_ri Q_rj is the sum of x_h Q_rh over the first `side` places h
unfoldable pub parameter_steps : ℕ → ℕ → List ℤ → ℕ → ℕ → List ℤ → List Step
parameter_steps root side numbers i j row =
    let o = value_operations root in
    let left = times root (value_at root row i) (value_at root row j) in
    let xs = row_values root numbers 0 side in
    let qs = row_values root row 0 side in
    Fits (product_fits root (value_at root row i) (value_at root row j))
    ∷ Fits (dot_fits o xs qs)
    ∷ Holds (is_same_value left (dot_of o xs qs))
    ∷ []

-- the same for these rows of Q
unfoldable pub parameter_rows : ℕ → ℕ → List ℤ → ℕ → ℕ → List (List ℤ) → List Step
parameter_rows root side numbers i j [] = []
parameter_rows root side numbers i j (row ∷ rest) =
    parameter_steps root side numbers i j row ++ parameter_rows root side numbers i j rest

-- the frame is whole, no line of i and j stands yet, and the numbers are their Krein parameters
abbrev pub krein_numbers_steps : Entries → FrameContent → ℕ → ℕ → List ℤ → List Step
krein_numbers_steps a f i j numbers =
    Holds (are_field_numbers f.root numbers (diameter a + 1))
    ∷ Holds (all_stand a f.q)
    ∷ Holds (not (krein_stands f.krein i j))
    ∷ parameter_rows f.root (diameter a + 1) numbers i j f.q

-- and 1 ≤ i ≤ j ≤ d. No condition before the rows of Q makes a work number, so their order is free.
abbrev pub krein_steps : Entries → FrameContent → ℤ → ℤ → List ℤ → List Step
krein_steps a f i j numbers =
    Holds (is_index 1 i (diameter a))
    ∷ Holds (is_index (unsigned_abs i) j (diameter a))
    ∷ krein_numbers_steps a f (unsigned_abs i) (unsigned_abs j) numbers
