use Rattle.drg_graph.proofs.SizeLaws.{sizes_law}
use Rattle.drg_graph.proofs.sizes_law.Goals as goal

pub returns : goal.returns
returns c = sizes_law
