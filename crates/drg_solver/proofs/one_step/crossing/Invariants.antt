use Rattle.std.proofs.Common.{pos}
use Rattle.drg_linear.specs.Unknowns.{place}
use Rattle.drg_linear.specs.Values.{greatest_value}
use Rattle.drg_rooms.specs.Combinations.{equation_at}
use Rattle.drg_solver.specs.Tables.{IsBelow}
use Rattle.drg_solver.proofs.Passes.{HoldsBefore}
use Rattle.drg_solver.proofs.one_step.crossing.Given as goal

abbrev pub invariant-terms : goal.invariant-terms
invariant-terms l = HoldsBefore
    (λ t. IsBelow l.table (place l.room.d t.0) (greatest_value l.room.d l.room.bounds t.0 (equation_at l.equations (pos l.n))))
    (equation_at l.equations (pos l.n)).terms l.term-index
