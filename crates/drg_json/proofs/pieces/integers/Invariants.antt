use Rattle.std.proofs.Common.{◌≡◌, map, take}
use Rattle.std.specs.Fmt.{signed_decimal}
use Rattle.serde_json.specs.Data.{string}
use Rattle.serde_json.specs.View.{view}
use Rattle.drg_json.proofs.pieces.integers.Given as goal

abbrev pub invariant-numbers : goal.invariant-numbers
invariant-numbers l = map view l.list.items ≡ map string (map signed_decimal (take l.number-index l.numbers))
