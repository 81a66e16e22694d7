use Rattle.drg_solver.proofs.Reached.{IsReached}
use Rattle.drg_solver.proofs.search.solve.Given as goal

abbrev pub invariant-branches : goal.invariant-branches
invariant-branches l = IsReached l.system l.opened l.splits.items l.waiting.items l.lines.items
