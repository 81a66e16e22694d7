use Rattle.std.proofs.Common.{◌≡◌, ℕ, length, replicate, sym, ap, subst, ◌∙◌, arith, rules}
use Rattle.std.specs.Prelude.{◌||◌}
use Rattle.drg_edges.specs.Layers.{AreRows, are_joined, set_at}
use Rattle.drg_edges.specs.VertexSets.{holds}
use Rattle.drg_edges.proofs.Neighbours.{rows_done, refilled}
use Rattle.drg_edges.proofs.layers.rows_of.Goals as goal

pub returns : goal.returns
returns c =
    let g = c.args.graph.now in
    let made = c.in_ok-rows.rows in
    let rows = c.join_all.new.rows in
    let lent = c.deref_mut.ensures.value in
    let all : made.items ≡ replicate c.from.result c.empty.result = c.in_ok-rows.ensures.items_if_clones_equal (search rules) in
    let number = c.from.ensures in
    let long : length rows ≡ length made.items = c.join_all.ensures.length ∙ ap length lent in
    let hold : (u v : ℕ) → holds (set_at rows u) v ≡ (are_joined g.pairs u v || holds (set_at made.items u) v) =
    λ u v. c.join_all.ensures.hold u v ∙ (ap (λ ps. are_joined ps u v || holds (set_at c.deref_mut.result.now u) v) c.pairs.ensures ∙ ap (λ ss. are_joined g.pairs u v || holds (set_at ss u) v) lent) in
    subst (AreRows g) (sym (refilled made.len rows made.items long (omega (arith, made.ok.0))))
    (rows_done g c.count.result c.empty.result rows made.items c.count.ensures.range.0 c.count.ensures.range.1 c.count.ensures.vertices c.count.ensures.pairs c.empty.ensures
    (all ∙ ap (λ n. replicate n c.empty.result) number) long hold)
