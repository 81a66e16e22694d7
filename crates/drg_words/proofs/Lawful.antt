-- Grammars that clap can be told: names of options have a byte and no `=`, and no name stands twice. And the words of
-- several commands.
use Rattle.std.specs.Prelude.{◌≡◌, ◌&&◌, ◌||◌, Bool, ⊤, true, not, List, [], ◌∷◌, length, nat_lt, Some}
use Rattle.std.specs.List.{list_all}
use Rattle.clap.specs.Walk.{Text, is_empty}
use Rattle.clap.specs.Lexer.{has_byte}
use Rattle.drg_words.specs.Grammar.{Grammar, IsLine, Part, has_name}
use Rattle.drg_words.specs.Matches.{grammar_named}

abbrev pub is_name : Text → Bool
is_name name = not (is_empty name) && not (has_byte 61 name)

abbrev pub is_named : Grammar → Text → Bool
is_named g name = has_name g.options name || has_name g.flags name

abbrev pub is_once : List Text → Bool
is_once [] = true
is_once (x ∷ xs) = not (has_name xs x) && is_once xs

pub record IsLawful (g : Grammar) : Type 0 where
  pub options : list_all is_name g.options ≡ true
  pub flags : list_all is_name g.flags ≡ true
  pub apart : list_all (λ n. not (has_name g.options n)) g.flags ≡ true
  pub others : list_all (λ n. not (is_named g n)) g.words ≡ true
  pub once : is_once g.words ≡ true
  pub few : nat_lt (length g.words) 1000 ≡ true

abbrev pub AreLawful : List (Text × Grammar) → Type 0
AreLawful [] = ⊤
AreLawful (c ∷ cs) = IsLawful c.1 × AreLawful cs

-- the words are in the grammar
abbrev pub InGrammar : Grammar → List Text → Type 0
InGrammar g words = (parts : List Part) × (last : List Text) × IsLine g parts last words

-- the first word is the name of a command, and the others are in its grammar
abbrev pub InCommands : List (Text × Grammar) → List Text → Type 0
InCommands cs [] = ⊥
InCommands cs (w ∷ rest) = (g : Grammar) × (grammar_named cs w ≡ Some g) × InGrammar g rest
