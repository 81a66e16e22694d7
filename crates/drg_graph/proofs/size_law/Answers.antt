use Rattle.drg_graph.proofs.SizeLaws.{size_law}
use Rattle.drg_graph.proofs.size_law.Goals as goal

pub returns : goal.returns
returns c = size_law
