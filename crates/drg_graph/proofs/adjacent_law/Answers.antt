use Rattle.drg_graph.proofs.DistanceLaws.{adjacent_law}
use Rattle.drg_graph.proofs.adjacent_law.Goals as goal

pub returns : goal.returns
returns c = adjacent_law
