use Rattle.drg_graph.proofs.SizeLaws.{vertices_law}
use Rattle.drg_graph.proofs.vertices_law.Goals as goal

pub returns : goal.returns
returns c = vertices_law
