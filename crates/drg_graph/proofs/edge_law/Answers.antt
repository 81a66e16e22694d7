use Rattle.drg_graph.proofs.Witness.{edge_law}
use Rattle.drg_graph.proofs.edge_law.Goals as goal

pub returns : goal.returns
returns c = edge_law
