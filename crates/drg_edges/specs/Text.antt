-- The text of a graph as a list of edges: a line `graph N` and a line `x y` for each pair.
use Rattle.std.specs.Prelude.{◌≡◌, ◌≢◌, ℕ, ◌≤◌, ◌<◌, List, ◌∷◌, ◌++◌, map, decimal, codes}
use Rattle.std.specs.List.{AllByRecursion}
use Rattle.std.specs.Str.Lines.{lines}
use Rattle.drg_algebra.specs.Sums.{below}
use Rattle.drg_graph.specs.Graph.{Graph}

-- A graph has from 1 to 2,000 vertices.
abbrev pub IsCount : ℕ → Type 0
IsCount n = (1 ≤ n) × (n ≤ 2000)

-- The pair is of two different vertices among the numbers from 0 to n - 1.
abbrev pub IsPair : ℕ → ℕ × ℕ → Type 0
IsPair n p = (p.0 < n) × (p.1 < n) × (p.0 ≢ p.1)

-- The first line, without its end.
abbrev pub head_line : ℕ → List ℕ
head_line n = codes "graph " ++ decimal n

-- The line of a pair, without its end.
abbrev pub pair_line : ℕ × ℕ → List ℕ
pair_line p = decimal p.0 ++ 32 ∷ decimal p.1

-- The text is that of n vertices with these pairs, in their order. A line ends with a line feed, or with a carriage return
-- and a line feed, and the last one may have no end.
pub record IsEdgeText (text : List ℕ) (n : ℕ) (pairs : List (ℕ × ℕ)) : Type 0 where
  pub count : IsCount n
  pub are_pairs : AllByRecursion (IsPair n) pairs
  pub whole : lines text ≡ head_line n ∷ map pair_line pairs

-- The vertices are 0 to n - 1.
abbrev pub graph_on : ℕ → List (ℕ × ℕ) → Graph
graph_on n pairs = record { vertices = below n; pairs = pairs }

-- The text is that of the graph.
abbrev pub IsGraphText : List ℕ → Graph → Type 0
IsGraphText text g = (n : ℕ) × IsEdgeText text n g.pairs × (g.vertices ≡ below n)
