use Rattle.drg_solver.specs.Findings.{NoneFree}
use Rattle.drg_solver.proofs.Passes.{HoldsBefore}
use Rattle.drg_solver.proofs.finding.first_free.Given as goal

abbrev pub invariant-equations : goal.invariant-equations
invariant-equations l = HoldsBefore (λ e. NoneFree l.room e.terms) l.equations l.equation-index
