use Rattle.drg_graph.proofs.Witness.{complete_law}
use Rattle.drg_graph.proofs.complete_law.Goals as goal

pub returns : goal.returns
returns c = complete_law
