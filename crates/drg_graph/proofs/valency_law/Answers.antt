use Rattle.drg_graph.proofs.DistanceLaws.{valency_law}
use Rattle.drg_graph.proofs.valency_law.Goals as goal

pub returns : goal.returns
returns c = valency_law
