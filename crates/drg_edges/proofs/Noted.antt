-- What is noted of the pair of a vertex that has layers and another.
use Rattle.std.proofs.Common.{◌≡◌, ℕ, suc, ◌≤◌, ◌<◌, true, false, List, length, Option, None, Some, sym, ap, ap₂, subst, ◌∙◌, arith, inl, inr}
use Rattle.std.specs.Prelude.{◌&&◌, ◌≢◌}
use Rattle.std.proofs.lemmas.Bool.{cases_lt}
use Rattle.drg_algebra.specs.Sums.{below, count_of}
use Rattle.drg_algebra.proofs.Counts.{count-same}
use Rattle.drg_algebra.proofs.Tests.{never, not-false}
use Rattle.drg_graph.specs.Graph.{Graph, is_adjacent, is_at_distance, neighbours_at}
use Rattle.drg_graph.proofs.Walks.{adjacent-parts}
use Rattle.drg_edges.specs.Layers.{set_at, noted_at, AreRows, AreLayers, IsNoted}
use Rattle.drg_edges.specs.VertexSets.{holds}
use Rattle.drg_edges.specs.declared.layers.Layers.{Layers}
use Rattle.drg_edges.specs.declared.vertex_set.VertexSet.{VertexSet}
use Rattle.drg_edges.proofs.Reaching.{distance_small}
use Rattle.drg_edges.proofs.Neighbours.{vertex_row, rows_length}

noted_none : (g : Graph) (x v : ℕ) (noted : Option ℕ) → IsNoted g x v noted → (t : ℕ) → is_at_distance g t x v ≡ true → noted ≢ None
noted_none g x v None h t e = λ none. never (is_at_distance g t x v) e (h t)
noted_none g x v (Some s) h t e = λ none. (let f = none in cc)

module _ (g : Graph) (rows : List VertexSet) (layers : Layers) (x y : ℕ) (are : AreRows g rows) (from : AreLayers g x layers) (inside : y < length rows) where
  pub inside_distances : y < length layers.distances.items
  inside_distances = (let one = from.vertices in let two = rows_length g rows are in omega (arith, one, two, inside))

  noted_here : IsNoted g x y (noted_at layers.distances.items y)
  noted_here = (let same = rows_length g rows are in from.noted y (omega (arith, same, inside)))

  pub has_noted : (t : ℕ) → is_at_distance g t x y ≡ true → noted_at layers.distances.items y ≢ None
  has_noted t e = noted_none g x y (noted_at layers.distances.items y) noted_here t e

  pub at_noted : (t : ℕ) → noted_at layers.distances.items y ≡ Some t → is_at_distance g t x y ≡ true
  at_noted t e = subst (IsNoted g x y) e noted_here

  pub small_noted : (t : ℕ) → noted_at layers.distances.items y ≡ Some t → t < length rows
  small_noted t e = (let small = distance_small g x t y (at_noted t e) in let same = rows_length g rows are in omega (arith, small, same))

  pub layers_noted : (t : ℕ) → noted_at layers.distances.items y ≡ Some t → suc t < length layers.sets.items
  layers_noted t e = elim (cases_lt (suc t) (length layers.sets.items)) [
    | inl less ↦ less
    | inr more ↦ absurd (never (is_at_distance g t x y) (at_noted t e) (from.last t y more))
  ]

  -- how many neighbours of y are at a distance from x
  pub counted_noted : (row set : VertexSet) (i count : ℕ) → row ≡ set_at rows y → set ≡ set_at layers.sets.items i → i < length layers.sets.items
      → ((n : ℕ) → ((v : ℕ) → n ≤ v → holds row v ≡ false) → count ≡ count_of (λ v. holds row v && holds set v) (below n)) → count ≡ neighbours_at g i x y
  counted_noted row set i count row-is set-is less counted =
      let adjacent : (v : ℕ) → holds row v ≡ is_adjacent g y v = λ v. ap (λ s. holds s v) row-is ∙ are.hold y v inside in
      let at : (v : ℕ) → holds set v ≡ is_at_distance g i x v = λ v. ap (λ s. holds s v) set-is ∙ from.hold i v less in
      let past : (v : ℕ) → length rows ≤ v → holds row v ≡ false =
      λ v more. adjacent v ∙ not-false (is_adjacent g y v) (λ e. (let small = vertex_row g rows are v (adjacent-parts g y v e).right in omega (arith, small, more))) in
      counted (length rows) past
      ∙ (count-same (λ v. holds row v && holds set v) (λ v. is_adjacent g y v && is_at_distance g i x v) (below (length rows)) (λ v h. ap₂ (λ a b. a && b) (adjacent v) (at v))
      ∙ ap (λ vs. count_of (λ v. is_adjacent g y v && is_at_distance g i x v) vs) (sym are.vertices))
