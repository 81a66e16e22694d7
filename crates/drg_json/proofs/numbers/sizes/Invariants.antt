use Rattle.std.proofs.Common.{◌≡◌, map}
use Rattle.serde_json.specs.View.{view}
use Rattle.drg_json.specs.Reports.{size_items}
use Rattle.drg_json.proofs.numbers.sizes.Given as goal

abbrev pub invariant-sizes : goal.invariant-sizes
invariant-sizes l = map view l.list.items ≡ size_items l.numbers l.i
