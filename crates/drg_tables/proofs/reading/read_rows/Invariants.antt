use Rattle.std.proofs.Common.{List}
use Rattle.std.specs.List.{AllZip}
use Rattle.drg_tables.specs.Reading.{HasTaken, work_left}
use Rattle.drg_tables.specs.Rows.{IsRowOf, Record}
use Rattle.drg_tables.proofs.reading.read_rows.Given as goal

abbrev pub invariant-records : goal.invariant-records
invariant-records l = (records : List Record) × HasTaken l.fn.bytes records l.reader × AllZip IsRowOf records l.rows.items

abbrev pub decreases-records : goal.decreases-records
decreases-records l = work_left l.reader
