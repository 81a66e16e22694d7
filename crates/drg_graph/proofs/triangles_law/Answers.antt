use Rattle.drg_graph.proofs.ParityLaws.{triangles_law}
use Rattle.drg_graph.proofs.triangles_law.Goals as goal

pub returns : goal.returns
returns c = triangles_law
