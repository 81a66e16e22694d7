-- A table has one list of rows, or one first record that is no row, and never both.
use Rattle.std.proofs.Common.{◌≡◌, ◌≢◌, ◌∙◌, ◌<◌, ◌+◌, ◌++◌, ◌∷◌, ◌⊎◌, [], refl, sym, ap, ap₂, subst, arith, ℕ, zero, suc, List, length, inl, inr}
use Rattle.std.specs.List.{AllZip}
use Rattle.csv.specs.Reading.{default_config, strip_bom}
use Rattle.csv.specs.declared.parser.State.TheVariants.{StartRecord}
use Rattle.drg_array.specs.Entries.{Entries}
use Rattle.drg_array.specs.Faults.{IsFault}
use Rattle.drg_array.specs.Laws as text
use Rattle.drg_array.specs.Text.{IsArrayText}
use Rattle.drg_array.specs.declared.fault.ArrayFault.{ArrayFault}
use Rattle.drg_tables.specs.Laws.{NotBoth, OneFirstFault, OneTable, RowsOrFault}
use Rattle.drg_tables.specs.Reading.{work}
use Rattle.drg_tables.specs.Rows.{AreRecordsOf, AreRows, HasBadArray, HasOtherCount, IsFaultOf, IsFirstFault, IsRowOf, Record}
use Rattle.drg_tables.specs.declared.row.Row.{Row}
use Rattle.drg_tables.proofs.Records.{all_records, one_list}

same_records : (bytes : List ℕ) (records others : List Record) → AreRecordsOf bytes records → AreRecordsOf bytes others → records ≡ others
same_records bytes records others a b = one_list default_config StartRecord (strip_bom bytes) records others a b

-- both of two fields
same_two : (a b c d : List ℕ) → a ∷ b ∷ [] ≡ c ∷ d ∷ [] → (a ≡ c) × (b ≡ d)
same_two a b c d e = (cc e, cc e)

one_row : text.OneArray → (fields : Record) (row other : Row) → IsRowOf fields row → IsRowOf fields other → row ≡ other
one_row law fields row other (t, e, a) (u, f, b) =
    let same = same_two row.name t other.name u (sym e ∙ f) in
    let array = law u row.array other.array (subst (λ x. IsArrayText x row.array) same.1 a) b in
    ap₂ (λ x y. record { name = x; array = y }) same.0 array

same_rows : text.OneArray → (records : List Record) (rows others : List Row) → AllZip IsRowOf records rows → AllZip IsRowOf records others → rows ≡ others
same_rows law [] [] [] a b = refl
same_rows law [] [] (y ∷ others) a b = absurd b
same_rows law [] (x ∷ rows) others a b = absurd a
same_rows law (r ∷ records) [] others a b = absurd a
same_rows law (r ∷ records) (x ∷ rows) [] a b = absurd b
same_rows law (r ∷ records) (x ∷ rows) (y ∷ others) a b =
    ap₂ (λ z l. z ∷ l) (one_row law r x y a.0 b.0) (same_rows law records rows others a.1 b.1)

pub one_table : text.OneArray → OneTable
one_table law bytes rows others (records, are, each) (more, are2, each2) =
    same_rows law records rows others each (subst (λ l. AllZip IsRowOf l others) (same_records bytes more records are2 are) each2)

-- a record that is a row has no fault
not_both_of : text.NotBoth → (fields : Record) (row : Row) (at : ℕ) → IsRowOf fields row → IsFaultOf fields at → ⊥
not_both_of law fields row at (t, e, a) (inl (count, place)) = count (ap length e)
not_both_of law fields row at (t, e, a) (inr (name, u, fault, f, bad, place)) =
    let same = same_two row.name t name u (sym e ∙ f) in
    law u row.array fault (subst (λ x. IsArrayText x row.array) same.1 a) bad

one_fault_of : text.OneFault → (fields : Record) (at place : ℕ) → IsFaultOf fields at → IsFaultOf fields place → at ≡ place
one_fault_of law fields at place (inl (count, a)) (inl (count2, b)) = a ∙ sym b
one_fault_of law fields at place (inl (count, a)) (inr (name, t, fault, e, bad, b)) = absurd (count (ap length e))
one_fault_of law fields at place (inr (name, t, fault, e, bad, b)) (inl (count, a)) = absurd (count (ap length e))
one_fault_of law fields at place (inr (name, t, fault, e, bad, a)) (inr (name2, u, fault2, f, bad2, b)) =
    let same = same_two name t name2 u (sym e ∙ f) in
    a ∙ ap (λ (x : ArrayFault). x.at) (law u fault fault2 (subst (λ x. IsFault x fault) same.1 bad) bad2) ∙ sym b

-- the first record that is no row stands in one place
same_first : text.NotBoth → text.OneFault → (before others : List Record) (fields field2 : Record) (after after2 : List Record) (rows rows2 : List Row) (at place : ℕ)
    → before ++ fields ∷ after ≡ others ++ field2 ∷ after2 → AllZip IsRowOf before rows → AllZip IsRowOf others rows2 → IsFaultOf fields at → IsFaultOf field2 place
    → (length before ≡ length others) × (at ≡ place)
same_first both one [] [] fields field2 after after2 rows rows2 at place e good good2 bad bad2 =
    let same : fields ≡ field2 = cc e in
    (refl, one_fault_of one field2 at place (subst (λ r. IsFaultOf r at) same bad) bad2)
same_first both one [] (y ∷ others) fields field2 after after2 rows [] at place e good good2 bad bad2 = absurd good2
same_first both one [] (y ∷ others) fields field2 after after2 rows (row ∷ rows2) at place e good good2 bad bad2 =
    let same : fields ≡ y = cc e in
    absurd (not_both_of both y row at good2.0 (subst (λ r. IsFaultOf r at) same bad))
same_first both one (x ∷ before) others fields field2 after after2 [] rows2 at place e good good2 bad bad2 = absurd good
same_first both one (x ∷ before) [] fields field2 after after2 (row ∷ rows) rows2 at place e good good2 bad bad2 =
    let same : field2 ≡ x = cc e in
    absurd (not_both_of both x row place good.0 (subst (λ r. IsFaultOf r place) same bad2))
same_first both one (x ∷ before) (y ∷ others) fields field2 after after2 (row ∷ rows) [] at place e good good2 bad bad2 = absurd good2
same_first both one (x ∷ before) (y ∷ others) fields field2 after after2 (row ∷ rows) (row2 ∷ rows2) at place e good good2 bad bad2 =
    let rest : before ++ fields ∷ after ≡ others ++ field2 ∷ after2 = cc e in
    let more = same_first both one before others fields field2 after after2 rows rows2 at place rest good.1 good2.1 bad bad2 in
    (ap suc more.0, more.1)

pub one_first_fault : text.NotBoth → text.OneFault → OneFirstFault
one_first_fault both one bytes n m at place f g =
    let same = same_first both one f.before g.before f.fields g.fields f.after g.after f.rows g.rows at place
    (same_records bytes (f.before ++ f.fields ∷ f.after) (g.before ++ g.fields ∷ g.after) f.whole g.whole) f.good g.good f.fault g.fault in
    (f.number_is ∙ ap (λ k. k + 1) same.0 ∙ sym g.number_is, same.1)

-- rows that go on past a record that is none
no_rows : text.NotBoth → (before : List Record) (fields : Record) (after : List Record) (rows : List Row) (at : ℕ)
    → AllZip IsRowOf (before ++ fields ∷ after) rows → IsFaultOf fields at → ⊥
no_rows both [] fields after [] at each bad = absurd each
no_rows both [] fields after (row ∷ rows) at each bad = not_both_of both fields row at each.0 bad
no_rows both (x ∷ before) fields after [] at each bad = absurd each
no_rows both (x ∷ before) fields after (row ∷ rows) at each bad = no_rows both before fields after rows at each.1 bad

pub not_both : text.NotBoth → NotBoth
not_both both bytes rows n at (records, are, each) f =
    no_rows both f.before f.fields f.after rows at
    (subst (λ l. AllZip IsRowOf l rows) (same_records bytes records (f.before ++ f.fields ∷ f.after) are f.whole) each) f.fault

-- a record is a row, or has a fault
row_or_fault : text.ArrayOrFault → (fields : Record) → ((row : Row) × IsRowOf fields row) ⊎ ((at : ℕ) × IsFaultOf fields at)
row_or_fault law [] = inr (0, inl ((λ e. omega (arith, e)), refl))
row_or_fault law (x ∷ []) = inr (0, inl ((λ e. omega (arith, e)), refl))
row_or_fault law (x ∷ t ∷ []) = by (law t)
  where
    by : ((a : Entries) × IsArrayText t a) ⊎ ((f : ArrayFault) × IsFault t f) → ((row : Row) × IsRowOf (x ∷ t ∷ []) row) ⊎ ((at : ℕ) × IsFaultOf (x ∷ t ∷ []) at)
    by (inl (a, is)) = inl (record { name = x; array = a }, (t, refl, is))
    by (inr (f, is)) = inr (f.at, inr (x, t, f, refl, is, refl))
row_or_fault law (x ∷ t ∷ y ∷ rest) = inr (0, inl ((λ e. omega (arith, e)), refl))

-- records are rows, or have a first one that is none
abbrev pub Split : List Record → Type 0
Split records = ((rows : List Row) × AllZip IsRowOf records rows)
    ⊎ ((before : List Record) × (fields : Record) × (after : List Record) × (rows : List Row) × (at : ℕ)
    × (records ≡ before ++ fields ∷ after) × AllZip IsRowOf before rows × IsFaultOf fields at)

split : text.ArrayOrFault → (records : List Record) → Split records
split law [] = inl ([], tt)
split law (r ∷ records) = by (row_or_fault law r) (split law records)
  where
    by : ((row : Row) × IsRowOf r row) ⊎ ((at : ℕ) × IsFaultOf r at) → Split records → Split (r ∷ records)
    by (inr (at, bad)) more = inr ([], r, records, [], at, refl, tt, bad)
    by (inl (row, is)) (inl (rows, each)) = inl (row ∷ rows, (is, each))
    by (inl (row, is)) (inr (before, fields, after, rows, at, e, each, bad)) =
        inr (r ∷ before, fields, after, row ∷ rows, at, ap (λ l. r ∷ l) e, (is, each), bad)

pub rows_or_fault : text.ArrayOrFault → RowsOrFault
rows_or_fault law bytes =
    let (records, are) = all_records (work StartRecord (strip_bom bytes) + 1) default_config StartRecord (strip_bom bytes) (omega arith) in
    by records are (split law records)
  where
    by : (records : List Record) → AreRecordsOf bytes records → Split records
        → ((rows : List Row) × AreRows bytes rows) ⊎ ((n : ℕ) × (at : ℕ) × IsFirstFault bytes n at)
    by records are (inl (rows, each)) = inl (rows, (records, are, each))
    by records are (inr (before, fields, after, rows, at, e, good, bad)) = inr (
      length before + 1,
      at,
      record {
        before = before;
        fields = fields;
        after = after;
        whole = subst (λ l. AreRecordsOf bytes l) e are;
        rows = rows;
        good = good;
        number_is = refl;
        fault = bad;
      },
    )
