-- Ordered pairs of vertices in lexicographic order, and what is counted at a pair
-- (Brouwer, Cohen and Neumaier 1989, section 4.1).
use Rattle.std.specs.Prelude.{◌≡◌, ◌≢◌, ℕ, zero, suc, ◌<◌, ◌⊎◌, IsTrue, length}
use Rattle.drg_graph.specs.Graph.{Graph, is_vertex, HasDistance, neighbours_at}

-- The pair (u, v) comes before (x, y).
abbrev pub Precedes : ℕ → ℕ → ℕ → ℕ → Type 0
Precedes u v x y = (u < x) ⊎ ((u ≡ x) × (v < y))

-- Of two vertices x and y at distance i, so many neighbours of y are one step nearer to x.
abbrev pub down_count : Graph → ℕ → ℕ → ℕ → ℕ
down_count g zero x y = 0
down_count g (suc i) x y = neighbours_at g i x y

-- Of two vertices x and y at distance i, so many neighbours of y are one step further from x.
abbrev pub up_count : Graph → ℕ → ℕ → ℕ → ℕ
up_count g i x y = neighbours_at g (suc i) x y

-- There are two vertices at least, and each two have a distance.
pub record HasDistances (g : Graph) : Type 0 where
  pub several : 1 < length g.vertices
  pub near : (x y : ℕ) → IsTrue (is_vertex g x) → IsTrue (is_vertex g y) → (t : ℕ) × HasDistance g t x y

-- The reference of a distance is the first pair at it.
pub record IsReference (g : Graph) (i x y : ℕ) : Type 0 where
  pub at : HasDistance g i x y
  pub first : (u v : ℕ) → HasDistance g i u v → Precedes u v x y → ⊥

-- The pair (x, y) at distance i hasn't both counts of the reference of this distance.
pub record Differs (g : Graph) (i x y : ℕ) : Type 0 where
  pub at : HasDistance g i x y
  pub x_reference : ℕ
  pub y_reference : ℕ
  pub reference : IsReference g i x_reference y_reference
  pub unlike : (down_count g i x_reference y_reference ≢ down_count g i x y) ⊎ (up_count g i x_reference y_reference ≢ up_count g i x y)
