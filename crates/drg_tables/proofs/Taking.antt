-- What a reader has taken after one more read, and which record is the first that is no row.
use Rattle.std.proofs.Common.{◌≡◌, ◌∙◌, ◌<◌, ◌+◌, ◌++◌, ◌∷◌, [], refl, sym, ap, subst, arith, ℕ, Bool, true, false, List, length, Option, Some, None, Bor, inl, append_assoc}
use Rattle.std.specs.List.{AllZip}
use Rattle.std.proofs.lemmas.Slice.Zip.{AllZip-long}
use Rattle.csv.specs.Machine.{Read, next_record}
use Rattle.csv.specs.Reading.{NextIs, Reached, ReadRecord, ReadsNext, default_config, pending_of, reader_config, reader_state, strip_bom, took_first}
use Rattle.csv.specs.declared.parser.Config.{Config}
use Rattle.csv.specs.declared.parser.State.{State}
use Rattle.csv.specs.declared.parser.State.TheVariants.{StartRecord}
use Rattle.csv.proofs.ReadFacts.{rows-end, rows-more}
use Rattle.drg_tables.specs.Reading.{BytesReader, HasTaken, IsFaultOfRow, Takes, bytes_left, known, source, work, work_left}
use Rattle.drg_tables.specs.Rows.{IsFaultOf, IsFirstFault, IsRowOf, IsTableFault, Record}
use Rattle.drg_tables.specs.declared.fault.TableReadFault.{TableReadFault}
use Rattle.drg_tables.specs.declared.fault.TableReadFault.TheVariants.{Bad, Memory}
use Rattle.drg_tables.specs.declared.row.Row.{Row}
use Rattle.drg_tables.proofs.Records.{all_records, less_work, reached_more}

less_after : (cfg : Config) (s s2 : State) (y : List ℕ) (after : Option (List ℕ)) (fields : Record) → ReadsNext cfg s (Some y) after true fields s2 → work s2 (known after) < work s y
less_after cfg s s2 y None fields h = absurd h
less_after cfg s s2 y (Some ys) fields h = by (next_record cfg s [] [] y) refl h
  where
    by : (o : Option Read) → next_record cfg s [] [] y ≡ o → NextIs o true fields s2 ys → work s2 ys < work s y
    by None e n = absurd (cc n)
    by (Some p) e (a, b, state, rest) = rw (state, rest) (less_work cfg s [] [] y p e)

less_read : (old new : BytesReader) (fields : Record) (y : List ℕ) → reader_config old ≡ default_config → source old ≡ Some y
    → ReadRecord (λ (b : Bor (List ℕ)). Some b.now) old new true fields → work_left new < work (reader_state old) y
less_read old new fields y ec ex read =
    let same : source new ≡ pending_of (Some new.rdr.now) new = rw read.1 refl in
    let low = less_after default_config (reader_state old) (reader_state new) y (pending_of (Some new.rdr.now) new) fields (rw (ec, ex) at read.0) in
    subst (λ (o : Option (List ℕ)). work (reader_state new) (known o) < work (reader_state old) y) (sym same) low

pub took : (bytes : List ℕ) (records : List Record) (old new : BytesReader) (found : Bool) (fields : Record) → HasTaken bytes records old → took_first new ≡ true
    → ReadRecord (λ (b : Bor (List ℕ)). Some b.now) old new found fields → Takes bytes records found fields old new
took bytes records old new true fields h first read =
    let (z, at, reached) = rows-more (λ (b : Bor (List ℕ)). Some b.now) old new fields default_config StartRecord (strip_bom bytes) (bytes_left old) records h.config h.left h.reached read in
    let same : bytes_left new ≡ z = ap known at in (
      record {
        plain = read.3 ∙ h.plain;
        ready = inl first;
        config = read.2 ∙ h.config;
        left = at ∙ ap Some (sym same);
        reached = rw same reached;
      },
      less_read old new fields (bytes_left old) h.config h.left read,
    )
took bytes records old new false fields h first read =
    (reader_state old, bytes_left old, h.reached, rows-end (λ (b : Bor (List ℕ)). Some b.now) old new fields default_config (bytes_left old) h.config h.left read)

first_fault : (bytes : List ℕ) (records : List Record) (rows : List Row) (fields : Record) (reader : BytesReader) (number at : ℕ)
    → HasTaken bytes (records ++ fields ∷ []) reader → AllZip IsRowOf records rows → number ≡ length rows + 1 → IsFaultOf fields at → IsFirstFault bytes number at
first_fault bytes records rows fields reader number at h good n fault =
    let (more, (s, left, reached, none)) = all_records (work_left reader + 1) default_config (reader_state reader) (bytes_left reader) (omega arith) in
    let whole = reached_more default_config StartRecord (strip_bom bytes) (records ++ fields ∷ []) more (reader_state reader) s (bytes_left reader) left h.reached reached in
    record {
      before = records;
      fields = fields;
      after = more;
      whole = (s, left, subst (λ l. Reached default_config StartRecord (strip_bom bytes) l s left) (append_assoc records (fields ∷ []) more) whole, none);
      rows = rows;
      good = good;
      number_is = n ∙ ap (λ l. l + 1) (AllZip-long IsRowOf records rows good);
      fault = fault;
    }

pub told : (bytes : List ℕ) (records : List Record) (rows : List Row) (fields : Record) (reader : BytesReader) (number : ℕ) (fault : TableReadFault)
    → HasTaken bytes (records ++ fields ∷ []) reader → AllZip IsRowOf records rows → number ≡ length rows + 1 → IsFaultOfRow number fields fault → IsTableFault bytes fault
told bytes records rows fields reader number (Bad row at) h good n f = rw f.0 (first_fault bytes records rows fields reader number at h good n f.1)
told bytes records rows fields reader number Memory h good n f = tt

pub rows_more : (records : List Record) (rows : List Row) (fields : Record) (row : Row) → AllZip IsRowOf records rows → IsRowOf fields row → AllZip IsRowOf (records ++ fields ∷ []) (rows ++ row ∷ [])
rows_more [] [] fields row h r = (r, tt)
rows_more [] (x ∷ rows) fields row h r = absurd h
rows_more (x ∷ records) [] fields row h r = absurd h
rows_more (x ∷ records) (y ∷ rows) fields row h r = (h.0, rows_more records rows fields row h.1 r)
