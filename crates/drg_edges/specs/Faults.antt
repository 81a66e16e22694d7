-- Which line of a text isn't as it should be.
use Rattle.std.specs.Prelude.{◌≡◌, ◌≢◌, ℕ, ◌+◌, ◌⊎◌, List, ◌∷◌, ◌++◌, length, map}
use Rattle.std.specs.List.{AllByRecursion}
use Rattle.std.specs.Str.Lines.{lines}
use Rattle.drg_edges.specs.Text.{IsCount, IsPair, head_line, pair_line}
use Rattle.drg_edges.specs.declared.fault.GraphFault.{GraphFault}
use Rattle.drg_edges.specs.declared.fault.GraphFault.TheVariants.{Bad, Memory}

-- There is no first line, or it tells no number of vertices.
abbrev pub HasBadHead : List ℕ → Type 0
HasBadHead text = (n : ℕ) (rest : List (List ℕ)) → IsCount n → lines text ≢ head_line n ∷ rest

-- The line with this number, from 1, is the first one that is no line of a pair.
pub record IsFirstBadPair (text : List ℕ) (line : ℕ) : Type 0 where
  pub count : ℕ
  pub good : List (ℕ × ℕ)
  pub bad : List ℕ
  pub rest : List (List ℕ)
  pub is_count : IsCount count
  pub whole : lines text ≡ head_line count ∷ (map pair_line good ++ bad ∷ rest)
  pub are_pairs : AllByRecursion (IsPair count) good
  pub no_pair : (p : ℕ × ℕ) → IsPair count p → bad ≢ pair_line p
  pub place : line ≡ length good + 2

-- The cause of a fault.
abbrev pub IsGraphFault : List ℕ → GraphFault → Type 0
IsGraphFault text (Bad line) = ((line ≡ 1) × HasBadHead text) ⊎ IsFirstBadPair text line
IsGraphFault text Memory = Unit {0}
