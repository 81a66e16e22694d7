-- What is written of a table: a record for each row, as the crate csv writes records by default.
use Rattle.std.specs.Prelude.{ℕ, List, [], ◌∷◌, ◌++◌}
use Rattle.csv.specs.Writing.{default_writer, row_text}
use Rattle.drg_array.specs.Text.{array_text}
use Rattle.drg_tables.specs.declared.row.Row.{Row}

-- The record of a row with some words: three fields, the name of the row, the canonical text of its array and the words.
-- A comma stands between two, a field with a comma, a double quote or a line end stands in double quotes, in which a double
-- quote is written twice, and a line feed ends the record.
abbrev pub record_text : Row → List ℕ → List ℕ
record_text row words = row_text default_writer (row.name ∷ array_text row.array ∷ words ∷ [])

-- The records of the rows, each with its words, in the order of the rows.
abbrev pub records_text : List Row → List (List ℕ) → List ℕ
records_text [] words = []
records_text (row ∷ rows) [] = []
records_text (row ∷ rows) (words ∷ more) = record_text row words ++ records_text rows more
