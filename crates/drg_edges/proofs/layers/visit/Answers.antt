use Rattle.std.proofs.Common.{◌<◌, length, Some, refl, ap, ◌∙◌, arith}
use Rattle.std.specs.Prelude.{◌&&◌, not}
use Rattle.std.proofs.lemmas.List.{length-set}
use Rattle.drg_edges.specs.Layers.{set_at}
use Rattle.drg_edges.specs.VertexSets.{holds}
use Rattle.drg_edges.proofs.LayerByLayer.{sound_next, complete_next, noted_member, neighbours_end}
use Rattle.drg_edges.proofs.layers.visit.Goals as goal

pub members-preserved : goal.members-preserved
members-preserved c =
    let rows = c.args.rows.now in
    let layer = c.args.layer.now in
    let v = c.in-Some.v in
    let member = c.in-Some.ensures.member in
    let inside : v < length rows = c.requires.layer v member.2 in
    let before = c.members.invariant in
    let long = before.long in
    let same = length-set c.members.distances v (Some c.args.distance) in
    record {
      inside = omega (arith, member.1);
      long = omega (arith, same, long);
      sound = sound_next rows layer c.members.next c.unite.new.self (set_at rows v) c.members.from v refl c.unite.ensures inside member.2 before.sound;
      complete = complete_next rows layer c.members.next c.unite.new.self (set_at rows v) c.members.from v refl c.unite.ensures member.0 c.in-Some.ensures.least before.complete;
      noted = noted_member layer c.members.distances c.args.distances.now c.members.from v c.args.distance (omega (arith, inside, long)) member.0 member.2 c.in-Some.ensures.least before.noted;
    }

pub returns-clause-next : goal.returns-clause-next
returns-clause-next c =
    let rows = c.args.rows.now in
    let layer = c.args.layer.now in
    let before = c.members.invariant in
    λ u. c.remove.ensures u ∙ ap (λ b. b && not (holds c.args.seen.now u)) (neighbours_end rows layer c.members.next c.members.from c.in_default.ensures.none before.sound before.complete u)
