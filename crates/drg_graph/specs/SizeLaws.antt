-- The sizes of an array are the counts at each vertex of a graph
-- (Brouwer, Cohen and Neumaier 1989, section 4.1).
use Rattle.std.specs.Prelude.{◌≡◌, ℕ, ℤ, suc, ◌≤◌, pos, ◌*ℤ◌, length, IsTrue}
use Rattle.drg_algebra.specs.Sums.{below, whole_sum, IsMultiple}
use Rattle.drg_array.specs.Entries.{Entries, IsArray, diameter, b_at, c_at}
use Rattle.drg_graph.specs.Graph.{Graph, is_vertex, sphere, IsDistanceRegular, NoGraph}
use Rattle.drg_graph.specs.Numbers.{AreSizes}

-- the counts at each vertex are sizes
abbrev pub SpheresLaw : Type 0
SpheresLaw = (g : Graph) (a : Entries) (x : ℕ) → IsDistanceRegular g a → IsTrue (is_vertex g x) → AreSizes a (diameter a) (λ i. pos (sphere g i x))

-- and no other whole numbers are
abbrev pub SizesLaw : Type 0
SizesLaw =
    (g : Graph) (a : Entries) (k : ℕ → ℤ) (m x i : ℕ) → IsArray a → IsDistanceRegular g a → m ≤ diameter a → AreSizes a m k
    → IsTrue (is_vertex g x) → i ≤ m → k i ≡ pos (sphere g i x)

-- their sum is the number of vertices
abbrev pub VerticesLaw : Type 0
VerticesLaw =
    (g : Graph) (a : Entries) (k : ℕ → ℤ) → IsArray a → IsDistanceRegular g a → AreSizes a (diameter a) k
    → pos (length g.vertices) ≡ whole_sum k (below (suc (diameter a)))

-- the size after k 0, .., k m isn't whole
abbrev pub SizeLaw : Type 0
SizeLaw =
    (a : Entries) (k : ℕ → ℤ) (m : ℕ) → IsArray a → suc m ≤ diameter a → AreSizes a m k
    → (IsMultiple (c_at a (suc m)) (k m *ℤ pos (b_at a m)) → ⊥) → NoGraph a
