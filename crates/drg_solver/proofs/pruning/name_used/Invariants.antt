use Rattle.drg_solver.specs.Trials.{AreNamed}
use Rattle.drg_solver.proofs.pruning.name_used.Given as goal

abbrev pub invariant-equations : goal.invariant-equations
invariant-equations l = AreNamed l.system l.names.items l.branches
