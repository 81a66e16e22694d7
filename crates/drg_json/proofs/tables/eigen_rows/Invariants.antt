use Rattle.std.proofs.Common.{◌≡◌, map}
use Rattle.serde_json.specs.View.{view}
use Rattle.drg_json.specs.Pieces.{first_items}
use Rattle.drg_json.specs.Tables.{row_data}
use Rattle.drg_json.specs.declared.tables.Row.TheVariants.{Eigen}
use Rattle.drg_json.proofs.tables.eigen_rows.Given as goal

abbrev pub invariant-rows : goal.invariant-rows
invariant-rows g l = map view l.list.items ≡ first_items (λ i. row_data g.F.Field.value g.F.Field.operations l.frame (Eigen i)) l.i
