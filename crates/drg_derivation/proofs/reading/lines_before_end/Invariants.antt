use Rattle.std.proofs.Common.{◌+◌, ◌≤◌, length}
use Rattle.drg_derivation.proofs.reading.lines_before_end.Given as goal

abbrev pub invariant-lines : goal.invariant-lines
invariant-lines l = l.count + length l.rest ≤ length l.bytes

abbrev pub decreases-lines : goal.decreases-lines
decreases-lines l = length l.rest
