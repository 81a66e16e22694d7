-- What the tests of a graph say, and what distances say of an array
-- (Brouwer, Cohen and Neumaier 1989, section 4.1).
use Rattle.std.specs.Prelude.{◌≡◌, ◌≢◌, ℕ, suc, ◌+◌, ◌≤◌, ◌<◌, ◌↔◌, ◌⊎◌, pos, ◌<ℤ◌, IsTrue}
use Rattle.drg_algebra.specs.Sums.{count_of}
use Rattle.drg_array.specs.Entries.{Entries, IsArray, diameter, b_at, c_at, a_at}
use Rattle.drg_graph.specs.Graph.{Graph, is_vertex, is_pair, is_adjacent, Adjacent, Walk, HasDistance, neighbours_at, IsDistanceRegular, NoGraph}

-- the ends of an edge, in any order
pub record IsEdge (g : Graph) (x y : ℕ) : Type 0 where
  pub left : IsTrue (is_vertex g x)
  pub right : IsTrue (is_vertex g y)
  pub differ : x ≢ y
  pub pair : IsTrue (is_pair g x y) ⊎ IsTrue (is_pair g y x)

-- graphs are simple: two numbers are adjacent exactly where they are the ends of an edge
abbrev pub AdjacentLaw : Type 0
AdjacentLaw = (g : Graph) (x y : ℕ) → Adjacent g x y ↔ IsEdge g x y

-- a walk that no walk is shorter than
pub record IsShortest (g : Graph) (t x y : ℕ) : Type 0 where
  pub walk : Walk g t x y
  pub least : (s : ℕ) → Walk g s x y → t ≤ s

abbrev pub ShortestLaw : Type 0
ShortestLaw = (g : Graph) (t x y : ℕ) → HasDistance g t x y ↔ IsShortest g t x y

-- distances are those of a metric space
pub record IsMetric (g : Graph) : Type 0 where
  pub one : (s t x y : ℕ) → HasDistance g s x y → HasDistance g t x y → s ≡ t
  pub zero : (x y : ℕ) → HasDistance g 0 x y ↔ (IsTrue (is_vertex g x) × (x ≡ y))
  pub neighbours : (x y : ℕ) → HasDistance g 1 x y ↔ Adjacent g x y
  pub symmetric : (t x y : ℕ) → HasDistance g t x y → HasDistance g t y x
  pub triangle : (r s t x y z : ℕ) → HasDistance g r x y → HasDistance g s y z → HasDistance g t x z → t ≤ r + s

abbrev pub MetricLaw : Type 0
MetricLaw = (g : Graph) → IsMetric g

-- all distances up to d occur at every vertex
abbrev pub DistancesLaw : Type 0
DistancesLaw =
    (g : Graph) (a : Entries) (x i : ℕ) → IsArray a → IsDistanceRegular g a → IsTrue (is_vertex g x) → i ≤ diameter a → (y : ℕ) × HasDistance g i x y

-- each vertex has b_0 neighbours
abbrev pub ValencyLaw : Type 0
ValencyLaw = (g : Graph) (a : Entries) (x : ℕ) → IsDistanceRegular g a → IsTrue (is_vertex g x) → count_of (is_adjacent g x) g.vertices ≡ b_at a 0

-- of two vertices x and y at distance i, y has a_i neighbours at distance i from x
abbrev pub EqualLaw : Type 0
EqualLaw = (g : Graph) (a : Entries) (i x y : ℕ) → IsDistanceRegular g a → HasDistance g i x y → a_at a i ≡ pos (neighbours_at g i x y)

-- c_1 = 1
abbrev pub FirstLaw : Type 0
FirstLaw = (a : Entries) → IsArray a → c_at a 1 ≢ 1 → NoGraph a

-- no a_i is negative
abbrev pub DegreeLaw : Type 0
DegreeLaw = (a : Entries) (i : ℕ) → IsArray a → 1 ≤ i → i ≤ diameter a → a_at a i <ℤ pos 0 → NoGraph a

-- the b_i don't rise, and the c_i don't fall
abbrev pub OrderLaw : Type 0
OrderLaw =
    (a : Entries) (i : ℕ) → IsArray a → 1 ≤ i → suc i ≤ diameter a → (b_at a i < b_at a (suc i)) ⊎ (c_at a (suc i) < c_at a i) → NoGraph a

-- c_i is at most b_j where i + j is at most d
abbrev pub CrossLaw : Type 0
CrossLaw = (a : Entries) (i j : ℕ) → IsArray a → 1 ≤ i → i + j ≤ diameter a → b_at a j < c_at a i → NoGraph a
