use Rattle.drg_solver.proofs.Prunings.{IsFollowed}
use Rattle.drg_solver.proofs.pruning.follow.Given as goal

abbrev pub invariant-lines : goal.invariant-lines
invariant-lines l = IsFollowed l.fn.branches l.followed.items l.branches l.bounds
