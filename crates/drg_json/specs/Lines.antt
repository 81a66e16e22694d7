-- Lines of bytes, with one line feed after each.
use Rattle.std.specs.Prelude.{◌≡◌, ℕ, ◌≢◌, List, [], ◌∷◌, ◌++◌}
use Rattle.std.specs.List.{AllByRecursion}

-- none of the bytes is a line feed
abbrev pub HasNoEnd : List ℕ → Type 0
HasNoEnd text = AllByRecursion (λ c. c ≢ 10) text

-- the lines, with one line feed after each
abbrev pub ended : List (List ℕ) → List ℕ
ended [] = []
ended (line ∷ lines) = line ++ 10 ∷ ended lines

-- the text is that of these lines
pub record AreLinesOf (text : List ℕ) (lines : List (List ℕ)) : Type 0 where
  pub unbroken : AllByRecursion HasNoEnd lines
  pub whole : text ≡ ended lines
