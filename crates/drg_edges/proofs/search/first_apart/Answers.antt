use Rattle.std.proofs.Common.{◌≡◌, ◌<◌, length, below_more, None, sym, ap, subst, ◌∙◌, arith}
use Rattle.std.specs.Prelude.{◌≢◌}
use Rattle.std.proofs.lemmas.List.{get_or_read}
use Rattle.drg_edges.specs.Answers.{IsApart}
use Rattle.drg_edges.specs.Layers.{noted_at}
use Rattle.drg_edges.proofs.Neighbours.{rows_count}
use Rattle.drg_edges.proofs.Noted.{inside_distances}
use Rattle.drg_edges.proofs.Connected.{none_is, some_is, apart_of, connected_of}
use Rattle.drg_edges.proofs.search.first_apart.Goals as goal

pub index-requires : goal.index-requires
index-requires c =
    let y = c.vertices.y in
    let same = rows_count c.args.graph.now c.args.rows.now c.requires.rows c.count-y-end.result c.count-y-end.ensures.vertices in
    let inside : y < length c.args.rows.now = omega (arith, same) in
    let less = inside_distances c.args.graph.now c.args.rows.now c.in_ok-layers.layers 0 y c.requires.rows c.in_ok-layers.ensures inside in
    let at = c.from.ensures in
    omega (arith, less, at, c.in_ok-layers.layers.distances.ok.0)

pub returns-then-is_none : goal.returns-then-is_none
returns-then-is_none c =
    let g = c.args.graph.now in
    let rows = c.args.rows.now in
    let layers = c.in_ok-layers.layers in
    let y = c.vertices.y in
    let same = rows_count g rows c.requires.rows c.count-y-end.result c.count-y-end.ensures.vertices in
    let inside : y < length rows = omega (arith, same) in
    let less = inside_distances g rows layers 0 y c.requires.rows c.in_ok-layers.ensures inside in
    let place = c.from.ensures in
    let at : c.index.result.now ≡ noted_at layers.distances.items y =
    get_or_read layers.distances.items c.from.result c.index.result.now (omega (arith, less, place)) c.index.ensures None ∙ ap (noted_at layers.distances.items) place in
    subst (IsApart g 0) (sym c.from-then-is_none.ensures)
    (apart_of g rows layers c.requires.rows c.in_ok-layers.ensures c.requires.several y inside (sym at ∙ none_is c.index.result.now c.if-is_none.ensures) c.vertices.invariant)

pub vertices-preserved : goal.vertices-preserved
vertices-preserved c =
    let g = c.args.graph.now in
    let rows = c.args.rows.now in
    let layers = c.in_ok-layers.layers in
    let y = c.vertices.y in
    let same = rows_count g rows c.requires.rows c.count-y-end.result c.count-y-end.ensures.vertices in
    let inside : y < length rows = omega (arith, same) in
    let less = inside_distances g rows layers 0 y c.requires.rows c.in_ok-layers.ensures inside in
    let place = c.from.ensures in
    let at : c.index.result.now ≡ noted_at layers.distances.items y =
    get_or_read layers.distances.items c.from.result c.index.result.now (omega (arith, less, place)) c.index.ensures None ∙ ap (noted_at layers.distances.items) place in
    let here : noted_at layers.distances.items y ≢ None = subst (λ o. o ≢ None) at (some_is c.index.result.now c.if-is_none.ensures) in
    below_more (λ v. noted_at layers.distances.items v ≢ None) y c.vertices.invariant here

pub returns : goal.returns
returns c =
    let same = rows_count c.args.graph.now c.args.rows.now c.requires.rows c.count-y-end.result c.count-y-end.ensures.vertices in
    connected_of c.args.graph.now c.args.rows.now c.in_ok-layers.layers c.requires.rows c.in_ok-layers.ensures c.requires.several (λ v less. c.vertices.invariant v (omega (arith, same, less)))
