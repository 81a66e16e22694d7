use Rattle.std.proofs.Common.{◌≡◌, map, take}
use Rattle.serde_json.specs.View.{view}
use Rattle.drg_json.specs.Pieces.{indices}
use Rattle.drg_json.proofs.numbers.orderings_value.Given as goal

abbrev pub invariant-orderings : goal.invariant-orderings
invariant-orderings l = map view l.list.items ≡ map indices (take l.ordering-index l.orderings)
