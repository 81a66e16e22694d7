use Rattle.std.proofs.Common.{◌*◌, refl, ◌∙◌, arith}
use Rattle.drg_edges.proofs.Sets.{count-next, common-all}
use Rattle.drg_edges.proofs.vertex_set.VertexSet.common.Goals as goal

pub words-preserved : goal.words-preserved
words-preserved c =
    let next = count-next c.args.self.now.words c.args.other.now.words c.words.place c.words.count (omega (arith, c.type_inv.self)) c.words.invariant.few c.words.invariant.counted in
    record { few = next.few; counted = next.counted }

pub returns : goal.returns
returns c =
    λ n none. c.words.invariant.counted (64 * c.words.place) refl ∙ common-all c.args.self.now.words c.args.other.now.words (64 * c.words.place) n (omega arith) none
