use Rattle.drg_graph.proofs.DistanceLaws.{metric_law}
use Rattle.drg_graph.proofs.metric_law.Goals as goal

pub returns : goal.returns
returns c = metric_law
