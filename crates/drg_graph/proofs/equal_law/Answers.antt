use Rattle.drg_graph.proofs.DistanceLaws.{equal_law}
use Rattle.drg_graph.proofs.equal_law.Goals as goal

pub returns : goal.returns
returns c = equal_law
