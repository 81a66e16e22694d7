use Rattle.drg_matrix.proofs.KreinProofs.{one_krein_family}
use Rattle.drg_matrix.proofs.laws.krein_law.Goals as goal

pub returns : goal.returns
returns g c = λ root h. one_krein_family (g.met.F.Field.laws root h)
