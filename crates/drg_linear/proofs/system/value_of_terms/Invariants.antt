use Rattle.drg_linear.proofs.Holding.{ValueRemains}
use Rattle.drg_linear.proofs.system.value_of_terms.Given as goal

abbrev pub invariant-terms : goal.invariant-terms
invariant-terms l = ValueRemains l.d l.values l.terms l.sum.value l.term-index
