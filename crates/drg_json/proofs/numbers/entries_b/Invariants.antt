use Rattle.std.proofs.Common.{◌≡◌, map, take}
use Rattle.serde_json.specs.View.{view}
use Rattle.drg_json.specs.Pieces.{index}
use Rattle.drg_json.proofs.numbers.entries_b.Given as goal

abbrev pub invariant-entries : goal.invariant-entries
invariant-entries l = map view l.list.items ≡ map index (take l.i l.array.b)
