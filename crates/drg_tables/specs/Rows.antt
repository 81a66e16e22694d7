-- The rows of a table: the records of comma-separated values as the crate csv reads them, each of a name and an array text.
use Rattle.std.specs.Prelude.{◌≡◌, ◌≢◌, ◌⊎◌, ℕ, ⊤, ◌+◌, List, [], ◌∷◌, ◌++◌, length}
use Rattle.std.specs.List.{AllZip}
use Rattle.csv.specs.Reading.{AreRecords, default_config, strip_bom}
use Rattle.csv.specs.declared.parser.State.TheVariants.{StartRecord}
use Rattle.drg_array.specs.Faults.{IsFault}
use Rattle.drg_array.specs.Text.{IsArrayText}
use Rattle.drg_array.specs.declared.fault.ArrayFault.{ArrayFault}
use Rattle.drg_tables.specs.declared.fault.TableReadFault.{TableReadFault}
use Rattle.drg_tables.specs.declared.fault.TableReadFault.TheVariants.{Bad, Memory}
use Rattle.drg_tables.specs.declared.row.Row.{Row}

-- A record is its fields, each as bytes.
abbrev pub Record : Type 0
Record = List (List ℕ)

-- These are all the records of the bytes, as csv reads them by default: a comma ends a field, a line feed, a carriage return
-- or both end a record, a field can stand in double quotes, and empty lines are no records. A byte order mark at the start
-- is no part of the first record.
abbrev pub AreRecordsOf : List ℕ → List Record → Type 0
AreRecordsOf bytes records = AreRecords default_config StartRecord (strip_bom bytes) records

-- The record has two fields, the name of the row and a text of its array.
abbrev pub IsRowOf : Record → Row → Type 0
IsRowOf fields row = (text : List ℕ) × (fields ≡ row.name ∷ text ∷ []) × IsArrayText text row.array

-- The rows of a table are those of its records, one for each, in their order.
abbrev pub AreRows : List ℕ → List Row → Type 0
AreRows bytes rows = (records : List Record) × AreRecordsOf bytes records × AllZip IsRowOf records rows

-- The record hasn't two fields. The place of this fault is 0.
abbrev pub HasOtherCount : Record → ℕ → Type 0
HasOtherCount fields at = (length fields ≢ 2) × (at ≡ 0)

-- The record has two fields, and the second isn't an array text. The place is that of the first fault in it.
abbrev pub HasBadArray : Record → ℕ → Type 0
HasBadArray fields at = (name text : List ℕ) × (fault : ArrayFault) × (fields ≡ name ∷ text ∷ []) × IsFault text fault × (at ≡ fault.at)

-- The record is no row, and its fault is at this place.
abbrev pub IsFaultOf : Record → ℕ → Type 0
IsFaultOf fields at = HasOtherCount fields at ⊎ HasBadArray fields at

-- The first record of the bytes that is no row has this number, counted from 1, and its fault is at this place.
pub record IsFirstFault (bytes : List ℕ) (number at : ℕ) : Type 0 where
  pub before : List Record
  pub fields : Record
  pub after : List Record
  pub whole : AreRecordsOf bytes (before ++ fields ∷ after)
  pub rows : List Row
  pub good : AllZip IsRowOf before rows
  pub number_is : number ≡ length before + 1
  pub fault : IsFaultOf fields at

-- What a fault says of the bytes. Want of memory says nothing of them.
abbrev pub IsTableFault : List ℕ → TableReadFault → Type 0
IsTableFault bytes (Bad row at) = IsFirstFault bytes row at
IsTableFault bytes Memory = ⊤
