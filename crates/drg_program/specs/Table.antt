-- What `table` finds in the rows of a file, and what it writes.
use Rattle.std.specs.Prelude.{◌≡◌, ℕ, List, map, slice_get}
use Rattle.std.specs.List.{AllZip}
use Rattle.drg_array.specs.Entries.{Entries}
use Rattle.drg_array.specs.declared.test.Test.{Test}
use Rattle.drg_report.specs.Words.{verdict_words}
use Rattle.drg_report.specs.declared.verdict.Verdict.{Verdict}
use Rattle.drg_tables.specs.Output.{records_text}
use Rattle.drg_tables.specs.Rows.{AreRows, IsFirstFault}
use Rattle.drg_tables.specs.declared.row.Row.{Row}
use Rattle.drg_program.specs.Check.{IsJudged}
use Rattle.drg_program.specs.declared.status.Status.{Status}
use Rattle.drg_program.specs.declared.status.Status.TheVariants.{Done}

-- The bytes are those of a table.
abbrev pub HasRows : List ℕ → Type 0
HasRows bytes = (rows : List Row) × AreRows bytes rows

-- The bytes are those of no table, and the first record that is no row has this number, and its fault is at this place.
abbrev pub IsFaultInRows : List ℕ → ℕ → ℕ → Type 0
IsFaultInRows bytes number at = (HasRows bytes → ⊥) × IsFirstFault bytes number at

-- The arrays of the rows, in the order of the rows.
abbrev pub arrays_of : List Row → List Entries
arrays_of rows = map (λ row. row.array) rows

-- These are the words of a right verdict on the array, where these tests are selected. What such a verdict says is what
-- `check` says of the array.
pub record AreWordsOn (tests : List Test) (a : Entries) (words : List ℕ) : Type 0 where
  pub verdict : Verdict
  pub judged : IsJudged a tests verdict
  pub are : words ≡ verdict_words verdict

-- The text has one record for each row, in the order of the rows: its name, the text of its array, and the words of a right
-- verdict on it. Rows with equal arrays have equal words.
pub record IsTableOf (rows : List Row) (tests : List Test) (text : List ℕ) : Type 0 where
  pub words : List (List ℕ)
  pub judged : AllZip (AreWordsOn tests) (arrays_of rows) words
  pub equal : (i j : ℕ) → slice_get (arrays_of rows) i ≡ slice_get (arrays_of rows) j → slice_get words i ≡ slice_get words j
  pub written : text ≡ records_text rows words

-- The bytes are those of a table, and these are the status and the text of its rows.
pub record AnswersTable (bytes : List ℕ) (tests : List Test) (status : Status) (text : List ℕ) : Type 0 where
  pub rows : List Row
  pub read : AreRows bytes rows
  pub told : status ≡ Done
  pub table : IsTableOf rows tests text
