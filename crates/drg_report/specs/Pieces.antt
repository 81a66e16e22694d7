-- Texts that are made piece by piece.
use Rattle.std.specs.Prelude.{ℕ, zero, suc, List, [], ◌∷◌, ◌++◌}

-- the first m pieces, one after the other
abbrev pub pieces : (ℕ → List ℕ) → ℕ → List ℕ
pieces piece zero = []
pieces piece (suc i) = pieces piece i ++ piece i

-- a text with one space before it
abbrev pub spaced : List ℕ → List ℕ
spaced text = 32 ∷ text
