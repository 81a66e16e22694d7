use Rattle.std.proofs.Common.{ℕ, List, length, map}
use Rattle.std.specs.Prelude.{IsAscii}
use Rattle.serde_json.specs.View.{view}
use Rattle.drg_json.specs.Lines.{AreLinesOf}
use Rattle.drg_json.proofs.Lines.{AreTaken}
use Rattle.drg_json.proofs.words.lines.Given as goal

abbrev pub invariant-lines : goal.invariant-lines
invariant-lines l = record {
  ascii : IsAscii l.rest;
  taken : (lines : List (List ℕ)) → AreLinesOf l.text lines → AreTaken (map view l.list.items) l.rest lines;
}

abbrev pub decreases-lines : goal.decreases-lines
decreases-lines l = length l.rest
