use Rattle.drg_graph.proofs.DistanceLaws.{first_law}
use Rattle.drg_graph.proofs.first_law.Goals as goal

pub returns : goal.returns
returns c = first_law
