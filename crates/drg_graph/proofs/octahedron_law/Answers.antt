use Rattle.drg_graph.proofs.Witness.{octahedron_law}
use Rattle.drg_graph.proofs.octahedron_law.Goals as goal

pub returns : goal.returns
returns c = octahedron_law
