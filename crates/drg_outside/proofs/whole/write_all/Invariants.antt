use Rattle.std.proofs.Common.{length, take, ◌-◌, ◌≤◌}
use Rattle.std.specs.Io.KnownBytes.{Appends}
use Rattle.drg_outside.proofs.whole.write_all.Given as goal

abbrev pub invariant-writes : goal.invariant-writes
invariant-writes g l = record {
  in_range : l.done ≤ length l.piece;
  written : Appends (g.K.Sink.bytes l.initial.sink) (g.K.Sink.bytes l.sink) (take l.done l.piece);
  later : g.K.Sink.faults l.initial.sink ≤ g.K.Sink.faults l.sink;
}

abbrev pub decreases-writes : goal.decreases-writes
decreases-writes g l = length l.piece - l.done
