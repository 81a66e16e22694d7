use Rattle.std.proofs.Common.{◌≡◌}
use Rattle.drg_sample.specs.Generated.{generated}
use Rattle.drg_sample.proofs.Drawn.{state_after_arrays}
use Rattle.drg_sample.proofs.generator.generate.Given as goal

abbrev pub invariant-arrays : goal.invariant-arrays
invariant-arrays l = (l.arrays.items ≡ generated l.fn.seed l._number) × (l.generator.state ≡ state_after_arrays l._number l.fn.seed)
