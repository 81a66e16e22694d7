-- A test that is true exactly of the graphs of an array, that a graph has one array, and graphs that pass the test: so
-- there are graphs that are distance-regular.
use Rattle.std.specs.Prelude.{◌≡◌, ◌≤◌, ◌↔◌, ℕ, zero, suc, Bool, true, not, ◌==◌, ◌&&◌, ◌||◌, List, [], ◌∷◌, IsTrue}
use Rattle.std.specs.List.{list_any}
use Rattle.drg_algebra.specs.Sums.{below, is_among}
use Rattle.drg_array.specs.Entries.{Entries, IsArray, diameter, b_at, c_at}
use Rattle.drg_graph.specs.Graph.{Graph, is_at_distance, neighbours_at, IsDistanceRegular}

abbrev pub all_of : (ℕ → Bool) → List ℕ → Bool
all_of test [] = true
all_of test (x ∷ xs) = test x && all_of test xs

abbrev pub are_distinct : List ℕ → Bool
are_distinct [] = true
are_distinct (x ∷ xs) = not (is_among x xs) && are_distinct xs

-- The vertices x and y have a distance, which is at most d.
abbrev pub is_near : Graph → Entries → ℕ → ℕ → Bool
is_near g a x y = list_any (λ t. is_at_distance g t x y) (below (suc (diameter a)))

-- Some two vertices have distance d.
abbrev pub has_far : Graph → Entries → Bool
has_far g a = list_any (λ x. list_any (is_at_distance g (diameter a) x) g.vertices) g.vertices

-- Of the neighbours of y, c_i are nearer to x, where i is the distance of x and y. At i = 0 none is counted.
abbrev pub nearer_right : Graph → Entries → ℕ → ℕ → ℕ → Bool
nearer_right g a x y zero = true
nearer_right g a x y (suc i) = neighbours_at g i x y == c_at a (suc i)

-- Where i is the distance of x and y, b_i of the neighbours of y are further from x, and c_i nearer.
abbrev pub is_right : Graph → Entries → ℕ → ℕ → ℕ → Bool
is_right g a x y i = not (is_at_distance g i x y) || (neighbours_at g (suc i) x y == b_at a i && nearer_right g a x y i)

-- Each ordered pair of vertices has a distance up to d, and the counts of the array at it.
abbrev pub is_regular : Graph → Entries → Bool
is_regular g a = all_of (λ x. all_of (λ y. is_near g a x y && all_of (is_right g a x y) (below (suc (diameter a)))) g.vertices) g.vertices

-- The test of a graph against an array. It looks at walks of at most d + 1 steps.
abbrev pub belongs : Graph → Entries → Bool
belongs g a = are_distinct g.vertices && has_far g a && is_regular g a

-- The test is true exactly of the graphs of the array.
abbrev pub CheckLaw : Type 0
CheckLaw = (g : Graph) (a : Entries) → IsTrue (belongs g a) ↔ IsDistanceRegular g a

-- A graph belongs to one array at most.
abbrev pub OneArrayLaw : Type 0
OneArrayLaw = (g : Graph) (a b : Entries) → IsArray a → IsDistanceRegular g a → IsDistanceRegular g b
    → (diameter a ≡ diameter b) × ((i : ℕ) → i ≤ diameter a → (b_at a i ≡ b_at b i) × (c_at a i ≡ c_at b i))

-- ---- graphs of arrays
abbrev pub petersen : Graph
petersen =
    record {
      vertices = 0 ∷ 1 ∷ 2 ∷ 3 ∷ 4 ∷ 5 ∷ 6 ∷ 7 ∷ 8 ∷ 9 ∷ [];
      pairs = (0, 1) ∷ (1, 2) ∷ (2, 3) ∷ (3, 4) ∷ (4, 0) ∷ (0, 5) ∷ (1, 6) ∷ (2, 7) ∷ (3, 8) ∷ (4, 9) ∷ (5, 7) ∷ (6, 8) ∷ (7, 9) ∷ (8, 5) ∷ (9, 6) ∷ [];
    }

abbrev pub heptagon : Graph
heptagon =
    record {
      vertices = 0 ∷ 1 ∷ 2 ∷ 3 ∷ 4 ∷ 5 ∷ 6 ∷ [];
      pairs = (0, 1) ∷ (1, 2) ∷ (2, 3) ∷ (3, 4) ∷ (4, 5) ∷ (5, 6) ∷ (6, 0) ∷ [];
    }

-- The Petersen graph belongs to {3,2;1,1}.
abbrev pub PetersenLaw : Type 0
PetersenLaw = IsDistanceRegular petersen (record { b = 3 ∷ 2 ∷ []; c = 1 ∷ 1 ∷ [] })

-- The heptagon belongs to {2,1,1;1,1,1}.
abbrev pub HeptagonLaw : Type 0
HeptagonLaw = IsDistanceRegular heptagon (record { b = 2 ∷ 1 ∷ 1 ∷ []; c = 1 ∷ 1 ∷ 1 ∷ [] })

-- Two vertices and one edge, told three times, with a loop and pairs with a number that is no vertex.
abbrev pub edge : Graph
edge = record { vertices = 7 ∷ 3 ∷ []; pairs = (3, 7) ∷ (7, 3) ∷ (3, 7) ∷ (3, 3) ∷ (3, 9) ∷ (9, 9) ∷ [] }

-- The complete graph on two vertices belongs to {1;1}.
abbrev pub EdgeLaw : Type 0
EdgeLaw = IsDistanceRegular edge (record { b = 1 ∷ []; c = 1 ∷ [] })

abbrev pub complete : Graph
complete = record { vertices = 9 ∷ 0 ∷ 4 ∷ 2 ∷ []; pairs = (0, 9) ∷ (0, 4) ∷ (2, 0) ∷ (2, 9) ∷ (4, 2) ∷ (9, 4) ∷ [] }

-- The complete graph on four vertices belongs to {3;1}.
abbrev pub CompleteLaw : Type 0
CompleteLaw = IsDistanceRegular complete (record { b = 3 ∷ []; c = 1 ∷ [] })

-- All pairs of six vertices but 0 1, 2 3 and 4 5 are edges, listed in no order, with one of them twice, a loop, and a
-- pair with a number that is no vertex.
abbrev pub octahedron : Graph
octahedron =
    record {
      vertices = 5 ∷ 1 ∷ 4 ∷ 2 ∷ 3 ∷ 0 ∷ [];
      pairs = (0, 2) ∷ (2, 0) ∷ (0, 3) ∷ (0, 4) ∷ (0, 5) ∷ (1, 2) ∷ (1, 3) ∷ (1, 4) ∷ (5, 1) ∷ (2, 4) ∷ (2, 5) ∷ (3, 4) ∷ (3, 5) ∷ (6, 0) ∷ (1, 1) ∷ [];
    }

-- The octahedron belongs to {4,1;1,4}.
abbrev pub OctahedronLaw : Type 0
OctahedronLaw = IsDistanceRegular octahedron (record { b = 4 ∷ 1 ∷ []; c = 1 ∷ 4 ∷ [] })

abbrev pub cube : Graph
cube =
    record {
      vertices = 0 ∷ 1 ∷ 2 ∷ 3 ∷ 4 ∷ 5 ∷ 6 ∷ 7 ∷ [];
      pairs = (0, 1) ∷ (2, 3) ∷ (4, 5) ∷ (6, 7) ∷ (0, 2) ∷ (1, 3) ∷ (4, 6) ∷ (5, 7) ∷ (0, 4) ∷ (1, 5) ∷ (2, 6) ∷ (3, 7) ∷ [];
    }

-- The cube belongs to {3,2,1;1,2,3}.
abbrev pub CubeLaw : Type 0
CubeLaw = IsDistanceRegular cube (record { b = 3 ∷ 2 ∷ 1 ∷ []; c = 1 ∷ 2 ∷ 3 ∷ [] })
