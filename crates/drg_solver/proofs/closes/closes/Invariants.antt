use Rattle.std.proofs.Common.{take}
use Rattle.drg_solver.proofs.Tried.{IsTried}
use Rattle.drg_solver.proofs.closes.closes.Given as goal

abbrev pub invariant-lines : goal.invariant-lines
invariant-lines l = IsTried l.system l.room (take l.line-index l.lines) l.branches
