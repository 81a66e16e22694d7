use Rattle.drg_solver.proofs.LeastValues.{TermsRemain}
use Rattle.drg_solver.proofs.table.put_equation.Given as goal

abbrev pub invariant-terms : goal.invariant-terms
invariant-terms l = TermsRemain l.room.d l.room.bounds l.equation l.n l.fn.table.items l.table.items l.equation.terms l.term-index
