-- Square tables: the value in a row and a column, rows and columns as lists, and the scalar tables.
use Rattle.std.specs.Prelude.{◌≡◌, ℕ, ◌≤◌, ◌<◌, ◌+◌, ◌*◌, List, All, map, length, slice_index_or}
use Rattle.std.specs.List.{range_with_len}
use Rattle.drg_algebra.specs.Tables.{delta}
use Rattle.drg_fraction.specs.Operations.{Operations}

-- How many rows and columns there are, the root of all cells, and the cells row by row.
pub record Square (A : Type 0) : Type 0 where
  pub side : ℕ
  pub root : ℕ
  pub cells : List A

-- there are as many rows as columns, from 1 to 17, and all cells have the root
pub record IsTable {A : Type 0} (root_of : A → ℕ) (t : Square A) : Type 0 where
  pub some : 1 ≤ t.side
  pub short : t.side ≤ 17
  pub full : length t.cells ≡ t.side * t.side
  pub roots : All (λ x. root_of x ≡ t.root) t.cells

-- where the cell of a row and a column stands
abbrev pub place : ℕ → ℕ → ℕ → ℕ
place side i j = i * side + j

module _ {A V : Type 0} (value : A → V) (operations : ℕ → Operations V) (t : Square A) where
  -- the value in row i and column j
  abbrev pub cell : ℕ → ℕ → V
  cell i j = slice_index_or (map value t.cells) (place t.side i j) (operations t.root).nil

  -- the values of row i, and those of column j
  abbrev pub row_of : ℕ → List V
  row_of i = map (cell i) (range_with_len 0 t.side)

  abbrev pub column_of : ℕ → List V
  column_of j = map (λ i. cell i j) (range_with_len 0 t.side)

-- v on the diagonal, and nil elsewhere
abbrev pub IsScalarTable : {V : Type 0} → Operations V → ℕ → (ℕ → ℕ → V) → V → Type 0
IsScalarTable o n f v = (i j : ℕ) → i < n → j < n → f i j ≡ delta o.nil v i j

-- the values of the first n rows and columns are over the root
abbrev pub IsTableOver : {V : Type 0} → Operations V → ℕ → (ℕ → ℕ → V) → Type 0
IsTableOver o n f = (i j : ℕ) → i < n → j < n → o.IsOver (f i j)
