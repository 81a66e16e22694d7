use Rattle.std.proofs.Common.{◌≡◌, map}
use Rattle.serde_json.specs.View.{view}
use Rattle.drg_json.specs.Tables.{row_items}
use Rattle.drg_json.proofs.tables.row_values.Given as goal

abbrev pub invariant-columns : goal.invariant-columns
invariant-columns g l = map view l.list.items ≡ row_items g.F.Field.value g.F.Field.operations l.frame l.row l.column
