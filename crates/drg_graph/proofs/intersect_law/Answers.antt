use Rattle.drg_graph.proofs.RowLaws.{intersect_law}
use Rattle.drg_graph.proofs.intersect_law.Goals as goal

pub returns : goal.returns
returns c = intersect_law
