-- What the sets of neighbours, the layers from a vertex and the noted distances hold.
use Rattle.std.specs.Prelude.{◌≡◌, ℕ, suc, ◌≤◌, ◌<◌, Bool, true, false, ◌==◌, ◌&&◌, ◌||◌, List, [], length, Option, None, Some, slice_index_or}
use Rattle.std.specs.List.{list_any}
use Rattle.drg_algebra.specs.Sums.{below}
use Rattle.drg_graph.specs.Graph.{Graph, is_adjacent, is_at_distance}
use Rattle.drg_edges.specs.VertexSets.{holds}
use Rattle.drg_edges.specs.declared.layers.Layers.{Layers}
use Rattle.drg_edges.specs.declared.vertex_set.VertexSet.{VertexSet}

-- The set at a place of a list, and past its end one without members.
abbrev pub set_at : List VertexSet → ℕ → VertexSet
set_at sets i = slice_index_or sets i (record { words = [] })

-- The distance that is noted for the vertex v.
abbrev pub noted_at : List (Option ℕ) → ℕ → Option ℕ
noted_at distances v = slice_index_or distances v None

-- The pair stands among these, in one order or the other.
abbrev pub are_joined : List (ℕ × ℕ) → ℕ → ℕ → Bool
are_joined pairs u v = list_any (λ p. p.0 == u && p.1 == v) pairs || list_any (λ p. p.0 == v && p.1 == u) pairs

-- The sets are those of the neighbours of each vertex, from 0 on.
pub record AreRows (g : Graph) (rows : List VertexSet) : Type 0 where
  pub vertices : g.vertices ≡ below (length rows)
  pub some : 1 ≤ length rows
  pub most : length rows ≤ 2000
  pub hold : (y v : ℕ) → y < length rows → holds (set_at rows y) v ≡ is_adjacent g y v

-- A member of the layer is a neighbour of the vertex u.
abbrev pub has_neighbour : List VertexSet → VertexSet → ℕ → Bool
has_neighbour rows layer u = list_any (λ v. holds layer v && holds (set_at rows v) u) (below (length rows))

-- What is noted of the distance from x to v: the distance, or that there is none.
abbrev pub IsNoted : Graph → ℕ → ℕ → Option ℕ → Type 0
IsNoted g x v None = (t : ℕ) → is_at_distance g t x v ≡ false
IsNoted g x v (Some t) = is_at_distance g t x v ≡ true

-- The vertices by their distance from x: the sets of those at distance 0, 1, .., of which the last has no member, and the
-- distance of each vertex.
pub record AreLayers (g : Graph) (x : ℕ) (layers : Layers) : Type 0 where
  pub hold : (i v : ℕ) → i < length layers.sets.items → holds (set_at layers.sets.items i) v ≡ is_at_distance g i x v
  pub last : (t v : ℕ) → length layers.sets.items ≤ suc t → is_at_distance g t x v ≡ false
  pub few : length layers.sets.items ≤ suc (length g.vertices)
  pub vertices : length layers.distances.items ≡ length g.vertices
  pub noted : (v : ℕ) → v < length g.vertices → IsNoted g x v (noted_at layers.distances.items v)
