use Rattle.std.proofs.Common.{◌≡◌, ℕ, ◌+◌, take, get_or, ap₂, ◌∙◌, arith}
use Rattle.std.specs.Prelude.{◌==◌, ◌&&◌, ◌||◌}
use Rattle.std.proofs.lemmas.List.{take_more}
use Rattle.drg_edges.specs.Layers.{set_at}
use Rattle.drg_edges.specs.VertexSets.{holds}
use Rattle.drg_edges.proofs.Neighbours.{joined_next}
use Rattle.drg_edges.proofs.layers.join_all.Goals as goal

pub pairs-preserved : goal.pairs-preserved
pairs-preserved c =
    let pairs = c.args.pairs.now in
    let i = c.pairs.x-index in
    let p : ℕ × ℕ = get_or pairs i (0, 0) in
    let one = c.join.ensures.length in
    let two = c.join-in-pairs.ensures.length in
    let before = c.pairs.invariant in
    let long = before.long in
    let left : (u v : ℕ) → holds (set_at c.join.new.rows u) v ≡ (p.0 == u && p.1 == v || holds (set_at c.pairs.rows u) v) =
    λ u v. c.join.ensures.hold u v ∙ ap₂ (λ a b. a == u && b == v || holds (set_at c.pairs.rows u) v) c.from.ensures c.from-in-pairs.ensures in
    let right : (u v : ℕ) → holds (set_at c.join-in-pairs.new.rows u) v ≡ (p.1 == u && p.0 == v || holds (set_at c.join.new.rows u) v) =
    λ u v. c.join-in-pairs.ensures.hold u v ∙ ap₂ (λ a b. a == u && b == v || holds (set_at c.join.new.rows u) v) c.from-in-pairs-2.ensures c.from-in-pairs-3.ensures in
    record {
      long = omega (arith, one, two, long);
      hold = joined_next (take i pairs) (take (i + 1) pairs) p.0 p.1 c.pairs.rows c.join.new.rows c.join-in-pairs.new.rows c.args.rows.now (take_more pairs i (0, 0) (omega arith)) before.hold left right;
    }
