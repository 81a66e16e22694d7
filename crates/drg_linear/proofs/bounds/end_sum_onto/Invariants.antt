use Rattle.drg_linear.proofs.SumSteps.{Remains}
use Rattle.drg_linear.proofs.bounds.end_sum_onto.Given as goal

abbrev pub invariant-terms : goal.invariant-terms
invariant-terms l = Remains l.d l.side l.room l.terms l.fn.total.value l.sum.value l.term-index
