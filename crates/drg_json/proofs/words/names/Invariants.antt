use Rattle.std.proofs.Common.{◌≡◌, map, take}
use Rattle.serde_json.specs.Data.{string}
use Rattle.serde_json.specs.View.{view}
use Rattle.drg_array.specs.Claims.{test_name}
use Rattle.drg_json.proofs.words.names.Given as goal

abbrev pub invariant-tests : goal.invariant-tests
invariant-tests l = map view l.list.items ≡ map string (map test_name (take l.test-index l.tests))
