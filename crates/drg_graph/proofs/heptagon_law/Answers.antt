use Rattle.drg_graph.proofs.Witness.{heptagon_law}
use Rattle.drg_graph.proofs.heptagon_law.Goals as goal

pub returns : goal.returns
returns c = heptagon_law
