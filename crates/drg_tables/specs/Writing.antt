-- How far a writer of records has come.
use Rattle.std.specs.Prelude.{◌≡◌, ℕ, false, List, Some, Vec}
use Rattle.std.specs.declared.alloc.Global.{Global}
use Rattle.csv.specs.Writing.{default_writer, fields_written, has_written, text_written, writer_setup}
use Rattle.csv.specs.declared.writer.Writer.{Writer}

-- A writer of records into memory.
abbrev pub RecordsWriter : Type 0
RecordsWriter = Writer (Vec ℕ Global)

-- The writer has written this text, and next begins a record.
pub record HasWritten (text : List ℕ) (writer : RecordsWriter) : Type 0 where
  pub setup : writer_setup writer ≡ default_writer
  pub begins : fields_written writer ≡ 0
  pub clean : has_written writer ≡ false
  pub written : text_written (λ v. Some v.items) writer ≡ Some text
