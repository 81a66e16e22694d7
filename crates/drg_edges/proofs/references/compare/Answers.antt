use Rattle.std.proofs.Common.{◌≡◌, ◌<◌, length, None, Some, add-one, refl, sym, subst, ◌∙◌, arith}
use Rattle.std.specs.Prelude.{◌≢◌}
use Rattle.drg_edges.specs.Layers.{noted_at}
use Rattle.drg_graph.specs.Graph.{HasDistance}
use Rattle.drg_edges.specs.References.{AreAlike, AreCounts, AreReferences}
use Rattle.drg_edges.proofs.Neighbours.{row_vertex, rows_count}
use Rattle.drg_edges.proofs.Noted.{inside_distances, has_noted, at_noted, small_noted}
use Rattle.drg_edges.proofs.PairByPair.{references_next, alike_next, references_row, alike_row}
use Rattle.drg_edges.proofs.references.compare.Goals as goal

pub distance-distance-requires-clause-inside : goal.distance-distance-requires-clause-inside
distance-distance-requires-clause-inside c =
    let y = c.vertices.y in
    let same = rows_count c.args.graph.now c.args.rows.now c.requires.rows c.count-y-end.result c.count-y-end.ensures.vertices in
    let inside : y < length c.args.rows.now = omega (arith, same) in
    let less = inside_distances c.args.graph.now c.args.rows.now c.args.layers.now c.args.x y c.requires.rows c.requires.layers inside in
    let at = c.from.ensures in
    omega (arith, less, at)

pub distance-distance-requires-clause-noted : goal.distance-distance-requires-clause-noted
distance-distance-requires-clause-noted c =
    let g = c.args.graph.now in
    let rows = c.args.rows.now in
    let layers = c.args.layers.now in
    let x = c.args.x in
    let y = c.vertices.y in
    let same = rows_count g rows c.requires.rows c.count-y-end.result c.count-y-end.ensures.vertices in
    let inside : y < length rows = omega (arith, same) in
    let near = c.requires.connected.near x y (row_vertex g rows c.requires.rows x c.requires.x) (row_vertex g rows c.requires.rows y inside) in
    subst (λ v. noted_at layers.distances.items v ≢ None) (sym c.from.ensures) (has_noted g rows layers x y c.requires.rows c.requires.layers inside near.0 near.1)

pub counts_at-counts-requires-clause-y : goal.counts_at-counts-requires-clause-y
counts_at-counts-requires-clause-y c =
    let same = rows_count c.args.graph.now c.args.rows.now c.requires.rows c.count-y-end.result c.count-y-end.ensures.vertices in
    let at = c.from-in-vertices.ensures in
    omega (arith, same, at)

pub settle-requires : goal.settle-requires
settle-requires c =
    let g = c.args.graph.now in
    let rows = c.args.rows.now in
    let layers = c.args.layers.now in
    let y = c.vertices.y in
    let same = rows_count g rows c.requires.rows c.count-y-end.result c.count-y-end.ensures.vertices in
    let inside : y < length rows = omega (arith, same) in
    let t = c.distance-distance.result in
    let noted : noted_at layers.distances.items y ≡ Some t = subst (λ v. noted_at layers.distances.items v ≡ Some t) c.from.ensures c.distance-distance.ensures in
    let small = small_noted g rows layers c.args.x y c.requires.rows c.requires.layers inside t noted in
    let at = c.from-in-vertices-3.ensures in
    let long = c.vertices.invariant.long in
    omega (arith, small, at, long)

pub vertices-preserved : goal.vertices-preserved
vertices-preserved c =
    let g = c.args.graph.now in
    let rows = c.args.rows.now in
    let layers = c.args.layers.now in
    let x = c.args.x in
    let y = c.vertices.y in
    let same = rows_count g rows c.requires.rows c.count-y-end.result c.count-y-end.ensures.vertices in
    let inside : y < length rows = omega (arith, same) in
    let t = c.distance-distance.result in
    let d = c.from-in-vertices-3.result in
    let noted : noted_at layers.distances.items y ≡ Some t = subst (λ v. noted_at layers.distances.items v ≡ Some t) c.from.ensures c.distance-distance.ensures in
    let at : HasDistance g d x y = subst (λ k. HasDistance g k x y) (sym c.from-in-vertices-3.ensures) (at_noted g rows layers x y c.requires.rows c.requires.layers inside t noted) in
    let counts = c.counts_at-counts.result in
    let are : AreCounts g d x y counts =
    subst (λ k. AreCounts g k x y counts) (c.from-in-vertices-2.ensures ∙ sym c.from-in-vertices-3.ensures)
    (subst (λ v. AreCounts g c.from-in-vertices-2.result x v counts) c.from-in-vertices.ensures (c.counts_at-counts.ensures g x c.requires.rows c.requires.layers)) in
    let before = c.vertices.invariant in
    let old = c.vertices.references in
    let new = c.settle.new.references in
    let small = small_noted g rows layers x y c.requires.rows c.requires.layers inside t noted in
    let place = c.from-in-vertices-3.ensures in
    let long = before.long in
    let within : d < length old = omega (arith, small, place, long) in
    record {
      long = c.settle.ensures.length ∙ long;
      references = subst (λ k. AreReferences g x k new) (sym (add-one y))
          (references_next g x y d at old new (record { x = x; y = y; counts = counts }) c.settle.ensures.length refl refl are before.references c.settle.ensures.others c.settle.ensures.noted);
      alike = subst (λ k. AreAlike g x k) (sym (add-one y)) (alike_next g x y d at old counts within are before.references before.alike c.in_default.ensures.result);
    }

pub returns-clause-references : goal.returns-clause-references
returns-clause-references c =
    let n = c.count-y-end.result in
    let end : c.vertices.y ≡ n = omega arith in
    references_row c.args.graph.now n c.count-y-end.ensures.vertices c.args.x c.vertices.references (subst (λ y. AreReferences c.args.graph.now c.args.x y c.vertices.references) end c.vertices.invariant.references)

pub returns-clause-alike : goal.returns-clause-alike
returns-clause-alike c =
    let n = c.count-y-end.result in
    let end : c.vertices.y ≡ n = omega arith in
    alike_row c.args.graph.now n c.count-y-end.ensures.vertices c.args.x (subst (λ y. AreAlike c.args.graph.now c.args.x y) end c.vertices.invariant.alike)
