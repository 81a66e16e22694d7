use Rattle.std.proofs.Common.{◌≡◌, false}
use Rattle.drg_linear.specs.Moduli.{is_free}
use Rattle.drg_solver.proofs.Passes.{HoldsBefore}
use Rattle.drg_solver.proofs.finding.free_term.Given as goal

abbrev pub invariant-terms : goal.invariant-terms
invariant-terms l = HoldsBefore (λ t. is_free l.room.d l.room.bounds t ≡ false) l.terms l.term-index
