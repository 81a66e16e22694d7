use Rattle.std.proofs.Common.{◌≡◌, suc, ◌-◌, [], get_or, add-one, refl, sym, ap, subst, ◌∙◌, arith}
use Rattle.std.proofs.lemmas.List.{get_or_read}
use Rattle.drg_edges.specs.Pairs.{down_count}
use Rattle.drg_edges.specs.Layers.{set_at}
use Rattle.drg_edges.proofs.Noted.{counted_noted}
use Rattle.drg_edges.proofs.references.counts_at.Goals as goal
use Rattle.drg_edges.proofs.references.counts_at.Goals.{then-distance-eq0, else-distance-eq0}

pub returns : goal.returns
returns c =
    let rows = c.args.rows.now in
    let layers = c.args.layers.now in
    λ g x are from. record {
      down = elim c.if-distance-eq0.branch [
        | then-distance-eq0 w ↦ w.result-is ∙ ap (λ i. down_count g i x c.args.y) (sym w.if-distance-eq0.true)
        | else-distance-eq0 w ↦ (let whole : c.args.distance ≡ suc (c.args.distance - 1) = omega (arith, w.if-distance-eq0.false) in
            let at = get_or_read layers.sets.items (c.args.distance - 1) w.index.result.now (omega (arith, c.requires.distance)) w.index.ensures (record { words = [] }) in
            w.result-is
            ∙ (counted_noted g rows layers x c.args.y are from c.requires.y (set_at rows c.args.y) w.index.result.now (c.args.distance - 1) w.common.result refl at (omega (arith, c.requires.distance)) w.common.ensures
            ∙ ap (λ i. down_count g i x c.args.y) (sym whole)))
      ];
      up = counted_noted g rows layers x c.args.y are from c.requires.y (set_at rows c.args.y) c.index-2.result.now (suc c.args.distance) c.common-2.result refl
          (get_or_read layers.sets.items (suc c.args.distance) c.index-2.result.now c.requires.distance (subst (λ i. c.index-2.result.now ≡ get_or layers.sets.items i c.index-2.result.now) (add-one c.args.distance) c.index-2.ensures) (record { words = [] })) c.requires.distance c.common-2.ensures;
    }
