use Rattle.drg_graph.proofs.DistanceLaws.{shortest_law}
use Rattle.drg_graph.proofs.shortest_law.Goals as goal

pub returns : goal.returns
returns c = shortest_law
