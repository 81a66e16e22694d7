use Rattle.std.proofs.Common.{arith}
use Rattle.drg_edges.proofs.Sets.{united}
use Rattle.drg_edges.proofs.vertex_set.VertexSet.unite.Goals as goal

pub returns : goal.returns
returns c =
    united 32 c.words.self.words c.args.self.now.words c.args.other.now.words (omega arith) (omega arith) (omega arith)
    (λ w less. c.words.invariant.made w (omega arith))
