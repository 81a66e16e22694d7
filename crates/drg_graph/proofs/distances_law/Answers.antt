use Rattle.drg_graph.proofs.DistanceLaws.{distances_law}
use Rattle.drg_graph.proofs.distances_law.Goals as goal

pub returns : goal.returns
returns c = distances_law
