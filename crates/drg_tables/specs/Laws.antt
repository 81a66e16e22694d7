-- Laws of the grammar of tables, and of distinct arrays.
use Rattle.std.specs.Prelude.{◌≡◌, ◌⊎◌, ℕ, List}
use Rattle.drg_array.specs.Entries.{Entries}
use Rattle.drg_tables.specs.Distinct.{AreDistinct, Listing}
use Rattle.drg_tables.specs.Rows.{AreRows, IsFirstFault}
use Rattle.drg_tables.specs.declared.row.Row.{Row}

-- The bytes have one list of rows at most.
abbrev pub OneTable : Type 0
OneTable = (bytes : List ℕ) (rows others : List Row) → AreRows bytes rows → AreRows bytes others → rows ≡ others

-- The bytes have one first record at most that is no row, and its fault is at one place.
abbrev pub OneFirstFault : Type 0
OneFirstFault = (bytes : List ℕ) (n m at place : ℕ) → IsFirstFault bytes n at → IsFirstFault bytes m place → (n ≡ m) × (at ≡ place)

-- The bytes have rows, or a first record that is no row.
abbrev pub RowsOrFault : Type 0
RowsOrFault = (bytes : List ℕ) → ((rows : List Row) × AreRows bytes rows) ⊎ ((n : ℕ) × (at : ℕ) × IsFirstFault bytes n at)

-- The bytes don't have both.
abbrev pub NotBoth : Type 0
NotBoth = (bytes : List ℕ) (rows : List Row) (n at : ℕ) → AreRows bytes rows → IsFirstFault bytes n at → ⊥

-- A list has one listing of its distinct arrays.
abbrev pub OneListing : Type 0
OneListing = (list : List Entries) (found other : Listing) → AreDistinct list found → AreDistinct list other → found ≡ other
