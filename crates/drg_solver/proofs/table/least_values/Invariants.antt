use Rattle.std.proofs.Common.{length}
use Rattle.std.specs.Prelude.{replicate, None}
use Rattle.drg_solver.proofs.LeastValues.{EquationsRemain}
use Rattle.drg_solver.proofs.table.least_values.Given as goal

abbrev pub invariant-equations : goal.invariant-equations
invariant-equations l = EquationsRemain l.room.d l.room.bounds (replicate (length l.room.bounds) None) l.table.items l.equations l.n
