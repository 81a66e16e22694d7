use Rattle.drg_quadratic.proofs.EigenvalueFields as Values
use Rattle.drg_quadratic.proofs.laws.values_descend.Goals as goal

pub returns : goal.returns
returns g c = λ root h. Values.values_descend (g.met.F.Field.laws root h)
