use Rattle.std.proofs.Common.{◌≡◌, [], replicate}
use Rattle.drg_replay.proofs.counts.no_rows.Given as goal

abbrev pub invariant-indices : goal.invariant-indices
invariant-indices l = l.rows.items ≡ replicate l._h []
