use Rattle.std.proofs.Common.{rules, ◌++◌, ◌∷◌, []}
use Rattle.std.proofs.lemmas.Result.{err_from_is_err_and}
use Rattle.csv.specs.Records.{fields_of}
use Rattle.drg_tables.proofs.Taking.{rows_more, told}
use Rattle.drg_tables.proofs.reading.read_rows.Goals as goal

pub returns-in_err-row-clause-fault : goal.returns-in_err-row-clause-fault
returns-in_err-row-clause-fault c =
    let (records, before, rows) = c.records.invariant in
    let taken = rw c.if-branch.true at (c.in_ok-take_record.ensures.taken c.args.bytes.now records before) in
    let given = err_from_is_err_and c.from_residual-in_err-row.result c.from_residual-in_err-row.ensures.1 in
    rw (given.1, given.2)
    (told c.args.bytes.now records c.records.rows.items (fields_of c.take_record.new.fields) c.take_record.new.reader _ c.in_err-row.field-0.0 taken.0 rows (search rules) c.in_err-row.ensures.fault)

pub records-preserved : goal.records-preserved
records-preserved c =
    let (records, before, rows) = c.records.invariant in
    let taken = rw c.if-branch.true at (c.in_ok-take_record.ensures.taken c.args.bytes.now records before) in (
      records ++ fields_of c.take_record.new.fields ∷ [],
      taken.0,
      rw c.in_ok-push.ensures.items (rows_more records c.records.rows.items (fields_of c.take_record.new.fields) c.in_ok-row.row rows c.in_ok-row.ensures.row),
    )
