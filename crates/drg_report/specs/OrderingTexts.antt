-- The lines of the P- and Q-polynomial orderings of an array.
use Rattle.std.specs.Prelude.{ℕ, List, [], ◌++◌, Option, Some, None, codes, decimal}
use Rattle.std.specs.List.{flat_map}
use Rattle.drg_report.specs.Pieces.{spaced}

-- the indices r_1, .., r_d of an ordering, with one space before each
abbrev pub indices_text : List ℕ → List ℕ
indices_text order = flat_map (λ r. spaced (decimal r)) order

-- a word and the indices of an ordering
abbrev pub ordering_line : List ℕ → List ℕ → List ℕ
ordering_line word order = word ++ indices_text order ++ codes "\n"

-- a line for each ordering, in their order
abbrev pub ordering_lines : List ℕ → List (List ℕ) → List ℕ
ordering_lines word orders = flat_map (ordering_line word) orders

-- the P-polynomial orderings
abbrev pub p_lines : List (List ℕ) → List ℕ
p_lines orders = ordering_lines (codes "ppoly") orders

-- the Q-polynomial orderings, where there are Krein parameters
abbrev pub q_lines : Option (List (List ℕ)) → List ℕ
q_lines None = []
q_lines (Some orders) = ordering_lines (codes "qpoly") orders
