use Rattle.drg_graph.proofs.DistanceLaws.{degree_law}
use Rattle.drg_graph.proofs.degree_law.Goals as goal

pub returns : goal.returns
returns c = degree_law
