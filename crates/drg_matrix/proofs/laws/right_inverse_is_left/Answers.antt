use Rattle.drg_matrix.proofs.Inverses.{right_inverse_is_left_holds_over}
use Rattle.drg_matrix.proofs.laws.right_inverse_is_left.Goals as goal

pub returns : goal.returns
returns g c = λ root h. right_inverse_is_left_holds_over (g.met.F.Field.laws root h)
