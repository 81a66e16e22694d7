use Rattle.std.proofs.Common.{length}
use Rattle.drg_derivation.specs.Places.{HandsOutAll, IsAmong}
use Rattle.drg_derivation.specs.Text.{evidence_views}
use Rattle.drg_derivation.proofs.reading.read_lines.Given as goal

abbrev pub invariant-lines : goal.invariant-lines
invariant-lines l = record {
  hands : HandsOutAll l.fn.reader (evidence_views l.lines.items) l.reader;
  among : IsAmong l.reader.place;
}

abbrev pub decreases-lines : goal.decreases-lines
decreases-lines l = length l.reader.rest
