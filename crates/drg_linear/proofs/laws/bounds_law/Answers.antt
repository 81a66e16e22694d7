use Rattle.drg_linear.proofs.Counting.{equations_bound}
use Rattle.drg_linear.proofs.laws.bounds_law.Goals as goal

pub returns : goal.returns
returns c = equations_bound
