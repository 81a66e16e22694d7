use Rattle.std.specs.Prelude.{ℕ, ◌<◌}
use Rattle.drg_linear.proofs.Holding.{WithinAt}
use Rattle.drg_linear.proofs.system.lies_in.Given as goal

abbrev pub invariant-places : goal.invariant-places
invariant-places l = (k : ℕ) → k < l.i → WithinAt l.room l.values k
