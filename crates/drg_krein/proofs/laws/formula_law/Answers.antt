use Rattle.drg_krein.proofs.Formula.{formula_gives_krein, formula_is_symmetric}
use Rattle.drg_krein.proofs.laws.formula_law.Goals as goal

pub returns-clause-gives : goal.returns-clause-gives
returns-clause-gives g c = λ root h. formula_gives_krein (g.met.F.Field.laws root h) (c.right_inverse_is_left.ensures root h)

pub returns-clause-symmetric : goal.returns-clause-symmetric
returns-clause-symmetric g c = λ root h. formula_is_symmetric (g.met.F.Field.laws root h)
