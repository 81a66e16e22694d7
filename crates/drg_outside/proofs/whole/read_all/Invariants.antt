use Rattle.std.proofs.Common.{vec_len, ◌-◌, ◌≤◌, ◌≡◌}
use Rattle.std.specs.Io.KnownBytes.{Consumes}
use Rattle.drg_outside.specs.declared.whole.TheConstants.{PIECE}
use Rattle.drg_outside.proofs.whole.read_all.Given as goal

abbrev pub invariant-pieces : goal.invariant-pieces
invariant-pieces g l = record {
  whole_buffer : vec_len l.buffer ≡ PIECE;
  short : vec_len l.bytes ≤ l.limit;
  taken : Consumes (g.I.Inputs.left l.initial.inputs) (g.I.Inputs.left l.inputs) l.bytes.items;
  later : g.I.Inputs.read_faults l.initial.inputs ≤ g.I.Inputs.read_faults l.inputs;
  same_files : g.I.Inputs.files l.inputs ≡ g.I.Inputs.files l.initial.inputs;
  other_count : g.I.Inputs.open_faults l.inputs ≡ g.I.Inputs.open_faults l.initial.inputs;
}

abbrev pub decreases-pieces : goal.decreases-pieces
decreases-pieces g l = l.limit - vec_len l.bytes
