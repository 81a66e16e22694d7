-- The matrices of a frame as tables while they are copied.
use Rattle.std.specs.Prelude.{◌≡◌, ℕ, suc, ◌≤◌}
use Rattle.drg_fraction.specs.Operations.{Operations}
use Rattle.drg_matrix.specs.Table.{Square, cell}
use Rattle.drg_matrix.specs.Product.{IsBefore}
use Rattle.drg_matrices.specs.Tables.{FrameTables, diameter_of, root_of_tables, cosine_in, dual_in}
use Rattle.drg_krein.specs.declared.copies.Matrix.{Matrix}
use Rattle.drg_krein.specs.declared.copies.Matrix.TheVariants.{Cosines, Dual}

module _ {A V : Type 0} (value : A → V) (operations : ℕ → Operations V) (frame : FrameTables A) where
  -- the entry of the matrix in a row and a column
  abbrev pub entry_in : Matrix → ℕ → ℕ → V
  entry_in Cosines i j = cosine_in value operations frame i j
  entry_in Dual i j = dual_in value operations frame i j

  -- a table has the entries of the matrix at each place before (k, l)
  pub record IsCopy (matrix : Matrix) (t : Square A) (k l : ℕ) : Type 0 where
    pub side : t.side ≡ suc (diameter_of frame)
    pub same_root : t.root ≡ root_of_tables frame
    pub values : (i j : ℕ) → i ≤ diameter_of frame → j ≤ diameter_of frame → IsBefore i j k l → cell value operations t i j ≡ entry_in matrix i j
