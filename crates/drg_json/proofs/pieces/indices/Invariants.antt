use Rattle.std.proofs.Common.{◌≡◌, map, take}
use Rattle.serde_json.specs.View.{view}
use Rattle.drg_json.specs.Pieces.{index}
use Rattle.drg_json.proofs.pieces.indices.Given as goal

abbrev pub invariant-indices : goal.invariant-indices
invariant-indices l = map view l.list.items ≡ map index (take l.index-index l.indices)
