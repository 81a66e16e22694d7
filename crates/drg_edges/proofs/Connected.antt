-- Whether each vertex has a distance from the first.
use Rattle.std.proofs.Common.{◌≡◌, ℕ, ◌<◌, true, false, List, length, Option, None, Some, refl, sym, subst, arith, inl, inr}
use Rattle.std.specs.Prelude.{◌≢◌, is_some}
use Rattle.drg_algebra.proofs.Tests.{never}
use Rattle.drg_graph.specs.Graph.{Graph, is_at_distance}
use Rattle.drg_edges.specs.Answers.{IsApart}
use Rattle.drg_edges.specs.Layers.{noted_at, AreLayers, AreRows, IsNoted}
use Rattle.drg_edges.specs.Pairs.{HasDistances}
use Rattle.drg_edges.specs.declared.layers.Layers.{Layers}
use Rattle.drg_edges.specs.declared.vertex_set.VertexSet.{VertexSet}
use Rattle.drg_edges.proofs.Neighbours.{row_vertex, vertex_row, rows_length}
use Rattle.drg_edges.proofs.Reaching.{all_near}

pub none_is : (o : Option ℕ) → is_some o ≡ false → o ≡ None
none_is None e = refl
none_is (Some v) e = absurd (let f = e in cc)

pub some_is : (o : Option ℕ) → is_some o ≡ true → o ≢ None
some_is None e = absurd (let f = e in cc)
some_is (Some v) e = λ none. (let f = none in cc)

distance_of : (g : Graph) (x v : ℕ) (noted : Option ℕ) → IsNoted g x v noted → noted ≢ None → (t : ℕ) × (is_at_distance g t x v ≡ true)
distance_of g x v None h some = absurd (some refl)
distance_of g x v (Some t) h some = (t, h)

module _ (g : Graph) (rows : List VertexSet) (layers : Layers) (are : AreRows g rows) (from : AreLayers g 0 layers) (several : 1 < length g.vertices) where
  noted_of : (v : ℕ) → v < length rows → IsNoted g 0 v (noted_at layers.distances.items v)
  noted_of v less = (let same = rows_length g rows are in from.noted v (omega (arith, same, less)))

  pub apart_of : (y : ℕ) → y < length rows → noted_at layers.distances.items y ≡ None → ((v : ℕ) → v < y → noted_at layers.distances.items v ≢ None) → IsApart g 0 y
  apart_of y inside none before =
      let some = are.some in
      let none_noted : (t : ℕ) → is_at_distance g t 0 y ≡ false = subst (IsNoted g 0 y) none (noted_of y inside) in
      record {
        several = several;
        left = row_vertex g rows are 0 (omega (arith, some));
        right = row_vertex g rows are y inside;
        none = λ t e. never (is_at_distance g t 0 y) e (none_noted t);
        first = λ u v hu hv earlier. elim earlier [
          | inl less ↦ absurd (omega (arith, less))
          | inr same ↦ (let v_inside = vertex_row g rows are v hv in
              let found = distance_of g 0 v (noted_at layers.distances.items v) (noted_of v v_inside) (before v same.1) in
              (found.0, subst (λ a. is_at_distance g found.0 a v ≡ true) (sym same.0) found.1))
        ];
      }

  pub connected_of : ((v : ℕ) → v < length rows → noted_at layers.distances.items v ≢ None) → HasDistances g
  connected_of all = record {
    several = several;
    near = all_near g 0 (λ v hv. (let inside = vertex_row g rows are v hv in distance_of g 0 v (noted_at layers.distances.items v) (noted_of v inside) (all v inside)));
  }
