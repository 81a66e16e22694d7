use Rattle.std.proofs.Common.{◌≡◌, length}
use Rattle.drg_solver.proofs.finding.values_of.Given as goal

abbrev pub invariant-places : goal.invariant-places
invariant-places l = length l.values.items ≡ l.place
