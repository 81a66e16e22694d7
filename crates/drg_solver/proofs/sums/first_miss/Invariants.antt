use Rattle.std.proofs.Common.{◌≡◌, true}
use Rattle.drg_linear.specs.Closing.{Misses}
use Rattle.drg_linear.specs.Equations.{is_equation}
use Rattle.drg_solver.proofs.Passes.{HoldsBefore}
use Rattle.drg_solver.proofs.sums.first_miss.Given as goal

abbrev pub invariant-equations : goal.invariant-equations
invariant-equations l = HoldsBefore (λ e. (Misses l.room.d l.room.bounds e → ⊥) × (is_equation e ≡ true)) l.equations l.n
