use Rattle.drg_graph.proofs.Witness.{check_law}
use Rattle.drg_graph.proofs.check_law.Goals as goal

pub returns : goal.returns
returns c = check_law
