use Rattle.drg_graph.proofs.SizeLaws.{spheres_law}
use Rattle.drg_graph.proofs.spheres_law.Goals as goal

pub returns : goal.returns
returns c = spheres_law
