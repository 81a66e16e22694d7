use Rattle.std.proofs.Common.{arith}
use Rattle.drg_edges.proofs.Sets.{insert-shifted}
use Rattle.drg_edges.proofs.vertex_set.VertexSet.insert.Goals as goal

pub returns : goal.returns
returns c =
    let words = c.args.self.now.words in
    λ u. insert-shifted words c.args.v u (omega arith)
