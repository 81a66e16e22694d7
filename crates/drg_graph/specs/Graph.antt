-- Finite simple graphs, walks and distances, and the graphs that are distance-regular with an array
-- (Brouwer, Cohen and Neumaier 1989, section 4.1).
use Rattle.std.specs.Prelude.{◌≡◌, ℕ, zero, suc, ◌≤◌, ◌<◌, Bool, false, not, ◌==◌, ◌&&◌, ◌||◌, List, length, IsTrue}
use Rattle.std.specs.List.{list_any}
use Rattle.drg_algebra.specs.Sums.{count_of, is_among, AreDistinct}
use Rattle.drg_array.specs.Entries.{Entries, diameter, b_at, c_at}

-- The vertices of a graph are numbers. Its edges are pairs of them, each in one order or the other.
pub record Graph : Type 0 where
  pub vertices : List ℕ
  pub pairs : List (ℕ × ℕ)

abbrev pub is_vertex : Graph → ℕ → Bool
is_vertex g x = is_among x g.vertices

-- the pair (x, y) stands in the list, in this order
abbrev pub is_pair : Graph → ℕ → ℕ → Bool
is_pair g x y = list_any (λ p. p.0 == x && p.1 == y) g.pairs

-- Two numbers are adjacent where both are vertices, they differ, and their pair stands in the list in one order or
-- the other. So edges have no direction, and there are no loops and no double edges, whatever the list holds.
unfoldable pub is_adjacent : Graph → ℕ → ℕ → Bool
is_adjacent g x y = is_vertex g x && is_vertex g y && not (x == y) && (is_pair g x y || is_pair g y x)

-- a walk of t steps from x to y, each from a vertex to a neighbour of it
abbrev pub has_walk : Graph → ℕ → ℕ → ℕ → Bool
has_walk g zero x y = is_vertex g x && x == y
has_walk g (suc t) x y = list_any (λ z. is_adjacent g x z && has_walk g t z y) g.vertices

-- a walk of fewer than t steps
abbrev pub has_shorter : Graph → ℕ → ℕ → ℕ → Bool
has_shorter g zero x y = false
has_shorter g (suc t) x y = has_walk g t x y || has_shorter g t x y

-- the distance of x and y is t: there is a walk of t steps between them, and none of fewer
abbrev pub is_at_distance : Graph → ℕ → ℕ → ℕ → Bool
is_at_distance g t x y = has_walk g t x y && not (has_shorter g t x y)

-- The same as facts.
abbrev pub Adjacent : Graph → ℕ → ℕ → Type 0
Adjacent g x y = IsTrue (is_adjacent g x y)

abbrev pub Walk : Graph → ℕ → ℕ → ℕ → Type 0
Walk g t x y = IsTrue (has_walk g t x y)

abbrev pub HasDistance : Graph → ℕ → ℕ → ℕ → Type 0
HasDistance g t x y = IsTrue (is_at_distance g t x y)

-- how many neighbours of y are at distance t from x
abbrev pub neighbours_at : Graph → ℕ → ℕ → ℕ → ℕ
neighbours_at g t x y = count_of (λ z. is_adjacent g y z && is_at_distance g t x z) g.vertices

-- how many vertices are at distance i from x
abbrev pub sphere : Graph → ℕ → ℕ → ℕ
sphere g i x = count_of (is_at_distance g i x) g.vertices

-- how many vertices are at distance i from x and at distance j from y
abbrev pub pairs_at : Graph → ℕ → ℕ → ℕ → ℕ → ℕ
pairs_at g i j x y = count_of (λ z. is_at_distance g i x z && is_at_distance g j y z) g.vertices

-- The graph belongs to the array {b_0, .., b_(d-1); c_1, .., c_d}. It may have any number of vertices.
pub record IsDistanceRegular (g : Graph) (a : Entries) : Type 0 where
  pub some : 0 < length g.vertices
  pub distinct : AreDistinct g.vertices
  -- every two vertices have a distance, which is at most d
  pub near : (x y : ℕ) → IsTrue (is_vertex g x) → IsTrue (is_vertex g y) → (t : ℕ) × (t ≤ diameter a) × HasDistance g t x y
  -- some two have distance d
  pub far : (x : ℕ) × (y : ℕ) × HasDistance g (diameter a) x y
  -- Of two vertices x and y at distance i, y has b_i neighbours at distance i + 1 from x, where b_d is 0,
  pub further : (i x y : ℕ) → HasDistance g i x y → neighbours_at g (suc i) x y ≡ b_at a i
  -- and c_i at distance i - 1, where i is at least 1.
  pub nearer : (i x y : ℕ) → HasDistance g (suc i) x y → neighbours_at g i x y ≡ c_at a (suc i)

-- no finite graph belongs to the array
abbrev pub NoGraph : Entries → Type 0
NoGraph a = (g : Graph) → IsDistanceRegular g a → ⊥
