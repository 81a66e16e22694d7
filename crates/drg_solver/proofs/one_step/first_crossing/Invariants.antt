use Rattle.drg_solver.specs.Tables.{NoneCrosses}
use Rattle.drg_solver.proofs.Passes.{HoldsBefore}
use Rattle.drg_solver.proofs.one_step.first_crossing.Given as goal

abbrev pub invariant-equations : goal.invariant-equations
invariant-equations l = HoldsBefore (NoneCrosses l.room.d l.room.bounds l.table) l.equations l.n
