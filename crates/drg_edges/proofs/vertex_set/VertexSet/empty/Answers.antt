use Rattle.drg_edges.proofs.Sets.{zeros-bit}
use Rattle.drg_edges.proofs.vertex_set.VertexSet.empty.Goals as goal

pub returns : goal.returns
returns c = zeros-bit 32
