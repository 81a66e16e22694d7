use Rattle.std.proofs.Common.{◌≡◌, ℕ, suc, length, replicate, None, Some, sym, ap, ap₂, subst, ◌∙◌, arith, rules}
use Rattle.std.specs.Prelude.{if◌then◌else◌}
use Rattle.drg_edges.specs.Layers.{noted_at}
use Rattle.drg_edges.specs.VertexSets.{holds}
use Rattle.drg_edges.proofs.Neighbours.{refilled, layer_inside, layer_small, length-below}
use Rattle.drg_edges.proofs.LayerByLayer.{AreReached, length_push, reached_start, reached_next, reached_end, none_of, some_of}
use Rattle.drg_edges.proofs.layers.layers_from.Goals as goal

pub layers-init : goal.layers-init
layers-init c =
    let count = c.count.ensures.vertices in
    let number : length c.args.rows.now ≡ c.from.result = (let e = c.from.ensures in let same = sym (ap length c.requires.rows.vertices ∙ length-below (length c.args.rows.now)) ∙ (ap length count ∙ length-below c.count.result) in omega (arith, e, same)) in
    let items : c.in_ok-distances.distances.items ≡ replicate c.from.result None = c.in_ok-distances.ensures.items_if_clones_equal (search rules) in
    reached_start c.args.graph.now c.args.rows.now c.requires.rows c.args.x c.new-sets.result.items c.empty-seen.result c.insert.new.self c.in_ok-distances.distances.items
    c.requires.x c.new-sets.ensures.items c.empty-seen.ensures c.insert.ensures (items ∙ ap (λ n. replicate n None) (sym number))

pub visit-next-requires-clause-layer : goal.visit-next-requires-clause-layer
visit-next-requires-clause-layer c =
    let r = c.layers.invariant in
    layer_inside c.args.graph.now c.args.rows.now c.requires.rows c.args.x (length c.layers.sets.items) c.layers.layer c.layers.seen r.here r.before

pub layers-smaller : goal.layers-smaller
layers-smaller c =
    let r = c.layers.invariant in
    let member = some_of _ c.next_member.result (sym c.is_some.ensures ∙ c.layers-test.true) c.next_member.ensures.member in
    let small = layer_small c.args.graph.now c.args.rows.now c.requires.rows c.args.x (length c.layers.sets.items) c.layers.layer c.layers.seen r.here r.before member.0 member.1.2 in
    let pushed : length c.push.new.self.items ≡ suc (length c.layers.sets.items) = ap length c.in_ok-push.ensures.items ∙ length_push c.layers.sets.items c.layers.layer in
    omega (arith, small, pushed)

pub layers-preserved : goal.layers-preserved
layers-preserved c =
    let member = some_of _ c.next_member.result (sym c.is_some.ensures ∙ c.layers-test.true) c.next_member.ensures.member in
    let r = c.layers.invariant in
    let same = c.visit-next.ensures.length in
    let lent = c.deref_mut.ensures.value in
    let long : length c.visit-next.new.distances ≡ length c.layers.distances.items = same ∙ ap length lent in
    let number : c.len-distance.result ≡ length c.layers.sets.items = omega (arith, c.len-distance.ensures, c.layers.sets.ok.0) in
    let noted : (u : ℕ) → noted_at c.visit-next.new.distances u ≡ (if holds c.layers.layer u then Some (length c.layers.sets.items) else noted_at c.layers.distances.items u) =
    λ u. c.visit-next.ensures.noted u ∙ ap₂ (λ k ds. if holds c.layers.layer u then Some k else noted_at ds u) number lent in
    subst (λ ds. AreReached c.args.graph.now c.args.rows.now c.args.x c.push.new.self.items c.visit-next.result c.unite.new.self ds (length c.push.new.self.items))
    (sym (refilled c.layers.distances.len c.visit-next.new.distances c.layers.distances.items long (omega (arith, c.layers.distances.ok.0))))
    (reached_next c.args.graph.now c.args.rows.now c.requires.rows c.args.x c.layers.sets.items c.push.new.self.items c.layers.layer c.layers.seen c.visit-next.result c.unite.new.self
    c.layers.distances.items c.visit-next.new.distances member.0 c.layers.invariant member.1.2 c.in_ok-push.ensures.items c.visit-next.ensures.next c.unite.ensures long noted)

pub returns : goal.returns
returns c =
    reached_end c.args.graph.now c.args.rows.now c.requires.rows c.args.x c.layers.sets.items c.layers.layer c.layers.seen (record { sets = c.push-2.new.self; distances = c.layers.distances })
    c.layers.invariant (λ v. none_of c.next_member.result (sym c.is_some.ensures ∙ c.layers-test.false) c.next_member.ensures.none v (omega arith)) c.in_ok-push-2.ensures.items
