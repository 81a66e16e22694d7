use Rattle.std.proofs.Common.{◌≡◌, ◌-◌, ◌++◌, map}
use Rattle.serde_json.specs.View.{view}
use Rattle.drg_json.specs.Tables.{pairs_of_index}
use Rattle.drg_json.proofs.krein.push_pairs.Given as goal

abbrev pub invariant-seconds : goal.invariant-seconds
invariant-seconds g l = map view l.list.items ≡ map view l.initial.list.items ++ pairs_of_index g.F.Field.value g.F.Field.operations l.krein l.i (l.j - l.i)
