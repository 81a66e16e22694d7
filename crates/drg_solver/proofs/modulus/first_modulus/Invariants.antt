use Rattle.std.proofs.Common.{ℕ}
use Rattle.drg_linear.specs.Closing.{Misses, FailsModulo}
use Rattle.drg_solver.proofs.Passes.{HoldsBefore}
use Rattle.drg_solver.proofs.modulus.first_modulus.Given as goal

abbrev pub invariant-equations : goal.invariant-equations
invariant-equations l = HoldsBefore (λ e. (g : ℕ) → FailsModulo l.room.d l.room.bounds e g → Misses l.room.d l.room.bounds e) l.equations l.n
