-- Pairs counted from both ends, and triangles from their six orders, by elementary counting.
use Rattle.std.specs.Prelude.{ℕ, ℤ, suc, ◌≤◌, ◌*ℤ◌}
use Rattle.drg_algebra.specs.Sums.{below, whole_sum, IsMultiple}
use Rattle.drg_array.specs.Entries.{Entries, IsArray, diameter}
use Rattle.drg_graph.specs.Graph.{NoGraph}
use Rattle.drg_graph.specs.Numbers.{AreSizes, AreRows}

-- the ordered pairs at distance i are even in number: n k_i
abbrev pub HandshakeLaw : Type 0
HandshakeLaw =
    (a : Entries) (k : ℕ → ℤ) (i : ℕ) → IsArray a → AreSizes a (diameter a) k → 1 ≤ i → i ≤ diameter a
    → (IsMultiple 2 (whole_sum k (below (suc (diameter a))) *ℤ k i) → ⊥) → NoGraph a

-- and so are those at distance j among the vertices at distance i from one: k_i p^i_ij
abbrev pub InducedLaw : Type 0
InducedLaw =
    (a : Entries) (k : ℕ → ℤ) (p : ℕ → ℕ → ℤ) (i j : ℕ) → IsArray a → AreSizes a i k → AreRows a i i p → 1 ≤ j → i ≤ diameter a → j ≤ diameter a
    → (IsMultiple 2 (k i *ℤ p i j) → ⊥) → NoGraph a

-- the ordered triples with all three distances i are divisible by 6 in number: n k_i p^i_ii
abbrev pub TrianglesLaw : Type 0
TrianglesLaw =
    (a : Entries) (k : ℕ → ℤ) (p : ℕ → ℕ → ℤ) (i : ℕ) → IsArray a → AreSizes a (diameter a) k → AreRows a i i p → 1 ≤ i → i ≤ diameter a
    → (IsMultiple 6 (whole_sum k (below (suc (diameter a))) *ℤ k i *ℤ p i i) → ⊥) → NoGraph a
