-- The equations of Krein parameters as the code makes them, from the rows of two tables.
use Rattle.std.proofs.Common.{◌≡◌, ℕ, suc, ◌≤◌, ◌&&◌, ap, ap₂, ◌∙◌, arith, inl}
use Rattle.drg_fraction.specs.Operations.{Operations}
use Rattle.drg_fraction.specs.Field.{dot_fits}
use Rattle.drg_intersection.specs.Numbers.{Numbers}
use Rattle.drg_matrix.specs.Table.{Square, cell}
use Rattle.drg_matrix.specs.Table as Table
use Rattle.drg_matrices.specs.Tables.{FrameTables, diameter_of, root_of_tables}
use Rattle.drg_krein.specs.declared.copies.Matrix.TheVariants.{Dual}
use Rattle.drg_krein.specs.Copies.{IsCopy}
use Rattle.drg_krein.specs.Values.{FrameValues, values_in}
use Rattle.drg_krein.specs.Fits.{kprod_fits}
use Rattle.drg_krein.specs.Filling.{HasNumbers}
use Rattle.drg_krein.proofs.Cells.{row_of_copy, row_of_numbers}

module _ {A V : Type 0} (value : A → V) (operations : ℕ → Operations V) (numbers : Numbers) (frame : FrameTables A) where
  abbrev v : FrameValues V
  v = values_in value operations numbers frame

  abbrev o : Operations V
  o = operations (root_of_tables frame)

  pub product_is : (s t : Square A) (i j r : ℕ) → i ≤ j → j ≤ diameter_of frame → r ≤ diameter_of frame → IsCopy value operations frame Dual s (suc (diameter_of frame)) 0
      → HasNumbers value operations (root_of_tables frame) v i t (suc (diameter_of frame)) 0
      → ((operations s.root).product_fits (cell value operations s r i) (cell value operations s r j)
      && dot_fits (operations s.root) (Table.row_of value operations t j) (Table.row_of value operations s r)) ≡ kprod_fits o v i j r
  product_is s t i j r ordered inside inside_r copy full =
      ap (λ (n : ℕ). (operations n).product_fits (cell value operations s r i) (cell value operations s r j) && dot_fits (operations n) (Table.row_of value operations t j) (Table.row_of value operations s r)) copy.same_root
      ∙ ap₂ (λ x y. o.product_fits x y && dot_fits o (Table.row_of value operations t j) (Table.row_of value operations s r)) (copy.values r i inside_r (omega arith) (inl (omega arith))) (copy.values r j inside_r inside (inl (omega arith)))
      ∙ ap₂ (λ xs ys. o.product_fits (v.q r i) (v.q r j) && dot_fits o xs ys) (row_of_numbers value operations (root_of_tables frame) v i t j ordered inside full) (row_of_copy value operations frame Dual s r inside_r copy)
