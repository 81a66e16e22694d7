use Rattle.std.proofs.Common.{◌≡◌, map}
use Rattle.serde_json.specs.View.{view}
use Rattle.drg_json.specs.Tables.{parameter_items}
use Rattle.drg_json.proofs.krein.parameters.Given as goal

abbrev pub invariant-thirds : goal.invariant-thirds
invariant-thirds g l = map view l.list.items ≡ parameter_items g.F.Field.value g.F.Field.operations l.krein l.i l.j l.h
