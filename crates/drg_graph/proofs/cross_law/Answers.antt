use Rattle.drg_graph.proofs.DistanceLaws.{cross_law}
use Rattle.drg_graph.proofs.cross_law.Goals as goal

pub returns : goal.returns
returns c = cross_law
