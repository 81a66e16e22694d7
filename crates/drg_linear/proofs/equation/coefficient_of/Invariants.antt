use Rattle.drg_linear.proofs.Coefficients.{Unseen}
use Rattle.drg_linear.proofs.equation.coefficient_of.Given as goal

abbrev pub invariant-terms : goal.invariant-terms
invariant-terms l = Unseen l.unknown l.terms l.term-index
