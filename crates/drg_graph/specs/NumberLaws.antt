-- The rational numbers of an array are the counts wherever it has a graph, so an array that fails a test of counts has
-- none (Brouwer, Cohen and Neumaier 1989, section 4.1; the parities by elementary counting).
use Rattle.std.specs.Prelude.{◌≡◌, ℕ, ◌≤◌, pos, length, IsTrue}
use Rattle.drg_algebra.specs.Rational.{ℚ, whole}
use Rattle.drg_array.specs.Entries.{Entries, IsArray, diameter}
use Rattle.drg_array.specs.Numbers.{size, vertex_count, IsIntersectionNumber}
use Rattle.drg_array.specs.Conditions.{CountsFail}
use Rattle.drg_array.specs.declared.claim.Claim.{Claim}
use Rattle.drg_graph.specs.Graph.{Graph, is_vertex, HasDistance, sphere, pairs_at, IsDistanceRegular, NoGraph}

-- k_i is the number of vertices at distance i from any vertex
abbrev pub SizesAreCounts : Type 0
SizesAreCounts =
    (g : Graph) (a : Entries) (x i : ℕ) → IsArray a → IsDistanceRegular g a → IsTrue (is_vertex g x) → i ≤ diameter a → size a i ≡ whole (pos (sphere g i x))

-- n is the number of vertices
abbrev pub VertexCountIsCount : Type 0
VertexCountIsCount = (g : Graph) (a : Entries) → IsArray a → IsDistanceRegular g a → vertex_count a ≡ whole (pos (length g.vertices))

-- p^h_ij is the number of vertices at distance i from the one and j from the other of any two at distance h
abbrev pub NumbersAreCounts : Type 0
NumbersAreCounts =
    (g : Graph) (a : Entries) (h i j x y : ℕ) (p : ℚ) → IsArray a → IsDistanceRegular g a → HasDistance g h x y → i ≤ diameter a → j ≤ diameter a
    → IsIntersectionNumber a h i j p → p ≡ whole (pos (pairs_at g i j x y))

-- an array that fails a test of counts has no graph
abbrev pub CountingClaimsLaw : Type 0
CountingClaimsLaw = (a : Entries) (claim : Claim) → IsArray a → CountsFail a claim → NoGraph a
