use Rattle.std.proofs.Common.{take}
use Rattle.drg_solver.specs.Lines.{NameEach}
use Rattle.drg_solver.proofs.lines.names.Given as goal

abbrev pub invariant-equations : goal.invariant-equations
invariant-equations l = NameEach l.system l.lines.items (take l.n l.system.equations)
