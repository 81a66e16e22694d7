-- How far a reader of records has come.
use Rattle.std.specs.Prelude.{◌≡◌, ℕ, ⊤, ◌+◌, ◌<◌, Bool, true, false, List, [], ◌∷◌, ◌++◌, length, Option, None, Some, if◌then◌else◌}
use Rattle.std.specs.Borrow.{Bor}
use Rattle.csv.specs.Machine.{ends_at_end}
use Rattle.csv.specs.Reading.{Reached, Ready, default_config, reader_config, reader_state, reader_trim, source_of, strip_bom}
use Rattle.csv.specs.declared.parser.State.{State}
use Rattle.csv.specs.declared.parser.State.TheVariants.{StartRecord}
use Rattle.csv.specs.declared.reader.Reader.{Reader}
use Rattle.csv.specs.declared.reader.Trim.TheVariants as trim
use Rattle.drg_tables.specs.Rows.{AreRecordsOf, IsFaultOf, Record}
use Rattle.drg_tables.specs.declared.fault.TableReadFault.{TableReadFault}
use Rattle.drg_tables.specs.declared.fault.TableReadFault.TheVariants.{Bad, Memory}

-- A reader of bytes in memory.
abbrev pub BytesReader : Type 0
BytesReader = Reader (Bor (List ℕ))

-- The bytes that are known, and none where they aren't.
abbrev pub known : Option (List ℕ) → List ℕ
known None = []
known (Some bytes) = bytes

-- The bytes that a reader has left, where they are known.
abbrev pub source : BytesReader → Option (List ℕ)
source r = source_of (λ bytes. Some bytes.now) r

-- The bytes that a reader has left.
abbrev pub bytes_left : BytesReader → List ℕ
bytes_left r = known (source r)

-- What a reader in this state and with these bytes left has to do. It is less after each record.
abbrev pub work : State → List ℕ → ℕ
work s bytes = length bytes + length bytes + (if ends_at_end s then 1 else 0)

-- What a reader has to do.
abbrev pub work_left : BytesReader → ℕ
work_left r = work (reader_state r) (bytes_left r)

-- The reader has taken these records from the front of the bytes, and next takes the one after them.
pub record HasTaken (bytes : List ℕ) (records : List Record) (r : BytesReader) : Type 0 where
  pub plain : reader_trim r ≡ trim.None
  pub ready : Ready r
  pub config : reader_config r ≡ default_config
  pub left : source r ≡ Some (bytes_left r)
  pub reached : Reached default_config StartRecord (strip_bom bytes) records (reader_state r) (bytes_left r)

-- A reader that had taken these records took one more, or found that they are all.
abbrev pub Takes : List ℕ → List Record → Bool → Record → BytesReader → BytesReader → Type 0
Takes bytes records true fields old new = HasTaken bytes (records ++ fields ∷ []) new × (work_left new < work_left old)
Takes bytes records false fields old new = AreRecordsOf bytes records

-- The fault is that of the record with this number.
abbrev pub IsFaultOfRow : ℕ → Record → TableReadFault → Type 0
IsFaultOfRow number fields (Bad row at) = (row ≡ number) × IsFaultOf fields at
IsFaultOfRow number fields Memory = ⊤
