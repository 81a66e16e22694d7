use Rattle.std.proofs.Common.{◌≡◌, map, take}
use Rattle.serde_json.specs.Data.{string}
use Rattle.serde_json.specs.View.{view}
use Rattle.drg_report.specs.Words.{pending_text}
use Rattle.drg_json.proofs.words.pending_tests.Given as goal

abbrev pub invariant-entries : goal.invariant-entries
invariant-entries l = map view l.list.items ≡ map string (map pending_text (take l.entry-index l.pending))
