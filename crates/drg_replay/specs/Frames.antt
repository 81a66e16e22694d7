-- What the lines of a frame ask: `frame`, `theta`, `prow` and `qrow`.
use Rattle.std.specs.Prelude.{ℕ, zero, suc, ◌+◌, ℤ, pos, unsigned_abs, nat_eq, Bool, true, false, ◌&&◌, is_none, if◌then◌else◌, List, [], ◌∷◌, ◌++◌, length, map, slice_index_or, Option, Some, None}
use Rattle.std.specs.List.{range_with_len}
use Rattle.drg_algebra.specs.Rational.{whole}
use Rattle.drg_array.specs.Entries.{Entries, diameter, c_at, a_at}
use Rattle.drg_array.specs.Claims.{class_of}
use Rattle.drg_array.specs.declared.claim.Class.{Class}
use Rattle.drg_array.specs.declared.claim.Class.TheVariants.{Counting, Spectral}
use Rattle.drg_fraction.specs.Field.{dot_of, dot_fits}
use Rattle.drg_quadratic.specs.Values.{Value, nil, unit, plus, minus, times, rational}
use Rattle.drg_quadratic.specs.Work.{difference_fits, product_fits, sign_fits}
use Rattle.drg_quadratic.specs.Operations.{value_operations}
use Rattle.drg_whole.specs.Sums.{sum_fits_from}
use Rattle.drg_replay.specs.Known.{KnownContent, FrameContent}
use Rattle.drg_replay.specs.Steps.{Step, Holds, Fits}
use Rattle.drg_replay.specs.Indices.{is_index}
use Rattle.drg_replay.specs.Sizes.{is_full, values_of, vertex_count}
use Rattle.drg_replay.specs.Rows.{b_before}
use Rattle.drg_replay.specs.Roots.{is_root}
use Rattle.drg_replay.specs.FieldNumbers.{are_field_numbers, value_at, is_same_value, sign_at, is_greater}

abbrev pub is_spectral : Class → Bool
is_spectral Counting = false
is_spectral Spectral = true

abbrev pub frame_steps : KnownContent → ℤ → List Step
frame_steps k root =
    Holds (is_none k.frame)
    ∷ Holds (is_full k.array k.counts.sizes)
    ∷ Holds (is_spectral (class_of k.claim))
    ∷ Holds (is_root root)
    ∷ []

-- the numbers of a line among those of its kind
abbrev pub line_at : List (List ℤ) → ℕ → List ℤ
line_at lines i = slice_index_or lines i []

-- θ_i, P_ij and Q_rj as the lines write them
abbrev pub theta_at : FrameContent → ℕ → Value
theta_at f i = value_at f.root (line_at f.theta i) 0

abbrev pub p_at : FrameContent → ℕ → ℕ → Value
p_at f i j = value_at f.root (line_at f.p i) j

abbrev pub q_at : FrameContent → ℕ → ℕ → Value
q_at f r j = value_at f.root (line_at f.q r) j

-- the index is that of the next of these lines, which are at most d + 1
unfoldable pub is_next : Entries → ℤ → List (List ℤ) → Bool
is_next a i lines = is_index 0 i (diameter a) && nat_eq (unsigned_abs i) (length lines)

-- all d + 1 lines stand
abbrev pub all_stand : Entries → List (List ℤ) → Bool
all_stand a lines = nat_eq (length lines) (diameter a + 1)

-- ---- theta

-- x is below the last of the first m eigenvalues
abbrev pub descent_steps : FrameContent → ℕ → Value → List Step
descent_steps f zero x = []
descent_steps f (suc m) x =
    let difference = plus (theta_at f m) (minus x) in
    Fits (difference_fits (theta_at f m) x)
    ∷ Fits (sign_fits f.root difference)
    ∷ Holds (is_greater (sign_at f.root difference))
    ∷ []

abbrev pub theta_steps : Entries → FrameContent → ℤ → List ℤ → List Step
theta_steps a f i numbers =
    Holds (are_field_numbers f.root numbers 1)
    ∷ Holds (is_next a i f.theta)
    ∷ descent_steps f (length f.theta) (value_at f.root numbers 0)

-- ---- prow

-- b_(j-1), a_j and c_(j+1), and the numbers x_(j-1), x_j and x_(j+1) of a row; an absent one is 0
unfoldable pub coefficients : Entries → ℕ → List Value
coefficients a j =
    rational (whole (pos (b_before a j)))
    ∷ rational (whole (a_at a j))
    ∷ rational (whole (pos (c_at a (suc j))))
    ∷ []

abbrev pub value_before : ℕ → List ℤ → ℕ → Value
value_before root numbers zero = nil
value_before root numbers (suc j) = value_at root numbers j

unfoldable pub neighbours : ℕ → List ℤ → ℕ → List Value
neighbours root numbers j =
    value_before root numbers j
    ∷ value_at root numbers j
    ∷ value_at root numbers (suc j)
    ∷ []

-- θ x_j = b_(j-1) x_(j-1) + a_j x_j + c_(j+1) x_(j+1)
unfoldable pub recurrence_steps : Entries → ℕ → Value → List ℤ → ℕ → List Step
recurrence_steps a root theta numbers j =
    let o = value_operations root in
    Fits (product_fits root theta (value_at root numbers j))
    ∷ Fits (dot_fits o (coefficients a j) (neighbours root numbers j))
    ∷ Holds (is_same_value (times root theta (value_at root numbers j))
    (dot_of o (coefficients a j) (neighbours root numbers j)))
    ∷ []

-- the same for n places from j on
unfoldable pub recurrences_from : Entries → ℕ → Value → List ℤ → ℕ → ℕ → List Step
recurrences_from a root theta numbers j zero = []
recurrences_from a root theta numbers j (suc n) =
    recurrence_steps a root theta numbers j ++ recurrences_from a root theta numbers (suc j) n

-- the row begins with 1 and the eigenvalue
unfoldable pub begins_row : ℕ → Value → List ℤ → Bool
begins_row root theta numbers =
    is_same_value (value_at root numbers 0) unit && is_same_value (value_at root numbers 1) theta

abbrev pub prow_steps : Entries → FrameContent → ℤ → List ℤ → List Step
prow_steps a f i numbers =
    let theta = theta_at f (length f.p) in
    Holds (are_field_numbers f.root numbers (diameter a + 1))
    ∷ Holds (all_stand a f.theta)
    ∷ Holds (is_next a i f.p)
    ∷ Holds (begins_row f.root theta numbers)
    ∷ recurrences_from a f.root theta numbers 0 (diameter a + 1)

-- ---- qrow

-- the first n numbers of a row from place l on, and those in column j of the rows from row l on
abbrev pub row_values : ℕ → List ℤ → ℕ → ℕ → List Value
row_values root row l n = map (value_at root row) (range_with_len l n)

abbrev pub column_values : ℕ → List (List ℤ) → ℕ → ℕ → ℕ → List Value
column_values root rows j l n =
    map (λ r. value_at root (line_at rows r) j) (range_with_len l n)

-- x at i = j, and 0 elsewhere
abbrev pub diagonal : ℤ → ℕ → ℕ → Value
diagonal x i j = if nat_eq i j then rational (whole x) else nil

-- the sum of the products of a row of P, which is row i, and column j of these rows is n I at (i, j),
-- for n places each
unfoldable pub cell_steps : ℕ → List (List ℤ) → ℕ → ℤ → List ℤ → ℕ → ℕ → List Step
cell_steps root rows side n row i j =
    let o = value_operations root in
    let xs = row_values root row 0 side in
    let ys = column_values root rows j 0 side in
    Fits (dot_fits o xs ys) ∷ Holds (is_same_value (dot_of o xs ys) (diagonal n i j)) ∷ []

-- m cells of row i from column j on
unfoldable pub cells_from : ℕ → List (List ℤ) → ℕ → ℤ → List ℤ → ℕ → ℕ → ℕ → List Step
cells_from root rows side n row i j zero = []
cells_from root rows side n row i j (suc m) =
    cell_steps root rows side n row i j ++ cells_from root rows side n row i (suc j) m

-- these rows of P from row i on
unfoldable pub product_rows : ℕ → List (List ℤ) → ℕ → ℤ → ℕ → List (List ℤ) → List Step
product_rows root rows side n i [] = []
product_rows root rows side n i (row ∷ rest) =
    cells_from root rows side n row i 0 side ++ product_rows root rows side n (suc i) rest

-- P Q = n I, cell by cell and row by row, where Q has these rows and n is the sum of the sizes. That
-- sum is made for the first cell, where either of both sides that is too wide gives one answer.
abbrev pub product_steps : Entries → Option (List ℤ) → FrameContent → List (List ℤ) → List Step
product_steps a sizes f rows =
    Fits (sum_fits_from (pos 0) (values_of sizes))
    ∷ product_rows f.root rows (diameter a + 1) (vertex_count sizes) 0 f.p

-- the row is the last one
abbrev pub is_last : Entries → List (List ℤ) → Bool
is_last a lines = nat_eq (length lines) (diameter a)

abbrev pub qrow_steps : Entries → Option (List ℤ) → FrameContent → ℤ → List ℤ → List Step
qrow_steps a sizes f r numbers =
    Holds (are_field_numbers f.root numbers (diameter a + 1))
    ∷ Holds (all_stand a f.p)
    ∷ Holds (is_next a r f.q)
    ∷ (if is_last a f.q then product_steps a sizes f (f.q ++ numbers ∷ []) else [])

-- ---- a line that needs a frame

-- what a line asks of the frame that stands; no such line is met without one
abbrev pub in_frame : Option FrameContent → (FrameContent → List Step) → List Step
in_frame None steps = Holds false ∷ []
in_frame (Some f) steps = steps f
