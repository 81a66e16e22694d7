use Rattle.std.proofs.Common.{◌≡◌, ◌-◌, map}
use Rattle.serde_json.specs.View.{view}
use Rattle.drg_json.specs.Tables.{pairs_of_indices}
use Rattle.drg_json.proofs.krein.pairs.Given as goal

abbrev pub invariant-firsts : goal.invariant-firsts
invariant-firsts g l = map view l.list.items ≡ pairs_of_indices g.F.Field.value g.F.Field.operations l.krein (l.i - 1)
