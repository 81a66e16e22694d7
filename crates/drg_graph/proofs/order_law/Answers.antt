use Rattle.drg_graph.proofs.DistanceLaws.{order_law}
use Rattle.drg_graph.proofs.order_law.Goals as goal

pub returns : goal.returns
returns c = order_law
