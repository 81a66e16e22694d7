-- The row of one base, as a search makes it.
use Rattle.std.specs.Prelude.{◌≡◌, ℤ, ◌<ℤ◌, ◌↔◌, List, Contains}
use Rattle.drg_algebra.specs.Rational.{whole}
use Rattle.drg_array.specs.Entries.{Entries}
use Rattle.drg_fraction.specs.Fraction.{rational_of}
use Rattle.drg_census.specs.ClassicalRows.{DoAscend, IsRow, base_of}
use Rattle.drg_census.specs.ClassicalWork.{AllPass, alpha_of, beta_of, steps}
use Rattle.drg_census.specs.declared.bases.ClassicalRow.{ClassicalRow}
use Rattle.drg_census.specs.declared.parameters.Parameters.{Parameters}

-- No row of the array has this base.
abbrev pub NoRow : Entries → ℤ → Type 0
NoRow a b = (row : ClassicalRow) → IsRow a row → base_of row ≡ b → ⊥

-- The one row of the array with this base.
pub record IsTheRow (a : Entries) (b : ℤ) (row : ClassicalRow) : Type 0 where
  pub is : IsRow a row
  pub base : base_of row ≡ b
  pub alone : (other : ClassicalRow) → IsRow a other → base_of other ≡ b → other ≡ row

-- The parameters that pass for this base.
pub record IsPair (a : Entries) (b : ℤ) (pair : Parameters) : Type 0 where
  pub pass : AllPass (steps a b)
  pub alpha : rational_of pair.alpha ≡ alpha_of a (whole b)
  pub beta : rational_of pair.beta ≡ beta_of a (whole b)

-- The rows are those whose base is below a bound, ascending.
pub record AreRowsBelow (a : Entries) (bound : ℤ) (rows : List ClassicalRow) : Type 0 where
  pub exactly : (row : ClassicalRow) → Contains rows row ↔ (IsRow a row × (base_of row <ℤ bound))
  pub ascending : DoAscend rows
