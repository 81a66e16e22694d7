use Rattle.drg_matrices.proofs.Uniqueness.{one_frame}
use Rattle.drg_matrices.proofs.laws.one_frame.Goals as goal

pub returns : goal.returns
returns g c = λ root h. one_frame (g.met.F.Field.laws root h)
