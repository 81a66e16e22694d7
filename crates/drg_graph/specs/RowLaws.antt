-- The intersection numbers of an array are the counts for each two vertices of a graph
-- (Brouwer, Cohen and Neumaier 1989, section 4.1).
use Rattle.std.specs.Prelude.{◌≡◌, ℕ, ℤ, suc, ◌≤◌, ◌⊎◌, pos, ◌<ℤ◌}
use Rattle.drg_algebra.specs.Sums.{IsMultiple}
use Rattle.drg_array.specs.Entries.{Entries, IsArray, diameter, c_at}
use Rattle.drg_graph.specs.Graph.{Graph, HasDistance, pairs_at, IsDistanceRegular, NoGraph}
use Rattle.drg_graph.specs.Numbers.{AreRows, numerator}

-- the counts for each two vertices at distance h are rows of intersection numbers
abbrev pub CountsLaw : Type 0
CountsLaw =
    (g : Graph) (a : Entries) (h x y : ℕ) → IsArray a → IsDistanceRegular g a → HasDistance g h x y → AreRows a h (diameter a) (λ i j. pos (pairs_at g i j x y))

-- and no other whole numbers are, for these two vertices by themselves
abbrev pub RowsLaw : Type 0
RowsLaw =
    (g : Graph) (a : Entries) (p : ℕ → ℕ → ℤ) (h m x y i j : ℕ) → IsArray a → IsDistanceRegular g a → m ≤ diameter a → AreRows a h m p
    → HasDistance g h x y → i ≤ m → j ≤ diameter a → p i j ≡ pos (pairs_at g i j x y)

-- a number after the rows p 0, .., p m is negative or isn't whole
abbrev pub IntersectLaw : Type 0
IntersectLaw =
    (a : Entries) (p : ℕ → ℕ → ℤ) (h m j : ℕ) → IsArray a → h ≤ diameter a → suc m ≤ diameter a → j ≤ diameter a → AreRows a h m p
    → (numerator a p m j <ℤ pos 0) ⊎ (IsMultiple (c_at a (suc m)) (numerator a p m j) → ⊥) → NoGraph a
