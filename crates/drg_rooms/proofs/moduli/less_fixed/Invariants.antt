use Rattle.drg_rooms.proofs.TermSteps.{FixedRemain}
use Rattle.drg_rooms.proofs.moduli.less_fixed.Given as goal

abbrev pub invariant-terms : goal.invariant-terms
invariant-terms l = FixedRemain l.d l.room l.fn.total.value l.terms l.left.value l.term-index
