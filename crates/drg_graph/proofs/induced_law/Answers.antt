use Rattle.drg_graph.proofs.ParityLaws.{induced_law}
use Rattle.drg_graph.proofs.induced_law.Goals as goal

pub returns : goal.returns
returns c = induced_law
