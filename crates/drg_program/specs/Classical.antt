-- What `classical` finds in an array, and what it writes.
use Rattle.std.specs.Prelude.{◌≡◌, ℕ, ◌≤◌, ◌⊎◌, List, [], ◌∷◌, ◌++◌, codes}
use Rattle.std.specs.Fmt.{signed_decimal}
use Rattle.std.specs.List.{flat_map}
use Rattle.drg_array.specs.Entries.{Entries, diameter}
use Rattle.drg_census.specs.ClassicalRows.{AreClassicalRows}
use Rattle.drg_census.specs.declared.bases.ClassicalRow.{ClassicalRow}
use Rattle.drg_census.specs.declared.bases.ClassicalRow.TheVariants.{Holds, Wide}
use Rattle.drg_fraction.specs.Fraction.{rational_of}
use Rattle.drg_fraction.specs.declared.fraction.Fraction.{Fraction}
use Rattle.drg_fraction.specs.Text.{rational_text}
use Rattle.drg_program.specs.Check.{IsArrayOf}
use Rattle.drg_program.specs.declared.status.Status.{Status}
use Rattle.drg_program.specs.declared.status.Status.TheVariants.{Done, Undecided}

-- A parameter is written after a space.
abbrev pub parameter_text : Fraction → List ℕ
parameter_text value = codes " " ++ rational_text (rational_of value)

-- A row is written as `classical b alpha beta`, or as `wide b`, in a line of its own.
abbrev pub row_text : ClassicalRow → List ℕ
row_text (Holds b alpha beta) =
    codes "classical " ++ signed_decimal b ++ parameter_text alpha ++ parameter_text beta ++ codes "\n"
row_text (Wide b) = codes "wide " ++ signed_decimal b ++ codes "\n"

abbrev pub rows_text : List ClassicalRow → List ℕ
rows_text rows = flat_map row_text rows

-- Rows of which one is too wide are told as undecided.
abbrev pub rows_status : List ClassicalRow → Status
rows_status [] = Done
rows_status (Holds b alpha beta ∷ rows) = rows_status rows
rows_status (Wide b ∷ rows) = Undecided

-- The array has diameter 1, for which there are no classical parameters.
abbrev pub IsShort : Entries → Status → List ℕ → Type 0
IsShort a status text = (diameter a ≡ 1) × (status ≡ Done) × (text ≡ codes "diameter 1\n")

-- The rows of an array of diameter 2 or more are written.
pub record TellsRows (a : Entries) (status : Status) (text : List ℕ) : Type 0 where
  pub some : 2 ≤ diameter a
  pub rows : List ClassicalRow
  pub are : AreClassicalRows a rows
  pub told : status ≡ rows_status rows
  pub written : text ≡ rows_text rows

-- The bytes are the text of an array, and these are the status and the text of its classical parameters.
pub record AnswersClassical (bytes : List ℕ) (status : Status) (text : List ℕ) : Type 0 where
  pub array : Entries
  pub read : IsArrayOf bytes array
  pub tells : IsShort array status text ⊎ TellsRows array status text
