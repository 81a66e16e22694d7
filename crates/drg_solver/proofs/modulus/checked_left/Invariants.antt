use Rattle.drg_rooms.proofs.TermSteps.{FixedRemain}
use Rattle.drg_solver.proofs.modulus.checked_left.Given as goal

abbrev pub invariant-terms : goal.invariant-terms
invariant-terms l = FixedRemain l.d l.bounds l.equation.right l.equation.terms l.left.value l.term-index
