-- The grammar of the words that follow the name of a command: options with a value, flags and positional words, in any
-- order.
use Rattle.std.specs.Prelude.{◌≡◌, ◌≢◌, ◌⊎◌, ◌||◌, ℕ, Bool, ⊤, true, false, List, [], ◌∷◌, ◌++◌, length, codes, slice_index, Option, Some, None, if◌then◌else◌}
use Rattle.std.specs.List.{list_any}
use Rattle.std.specs.Str.{bytes_eq}

-- A word of a command line, as its bytes.
abbrev pub Word : Type 0
Word = List ℕ

-- What a command takes: the names of its options with a value, of its flags and of its positional words.
pub record Grammar : Type 0 where
  pub options : List Word
  pub flags : List Word
  pub words : List Word

-- The name is one of the names.
abbrev pub has_name : List Word → Word → Bool
has_name names name = list_any (λ x. bytes_eq x name) names

-- The word doesn't begin with `-`, or is `-` alone. The empty word is such a word.
abbrev pub IsPlain : Word → Type 0
IsPlain w = (slice_index w 0 ≢ 45) ⊎ (w ≡ 45 ∷ [])

-- An option with its value, a flag, or a positional word.
pub data Part : Type 0 where
  option : Word → Word → Part
  flag : Word → Part
  word : Word → Part

-- The name with `--` before it.
abbrev pub dashed : Word → Word
dashed name = 45 ∷ 45 ∷ name

-- The words are `--name value`, where the value is plain, or the one word `--name=value` with any value.
abbrev pub IsOption : Word → Word → List Word → Type 0
IsOption name value words = ((words ≡ dashed name ∷ value ∷ []) × IsPlain value) ⊎ (words ≡ dashed (name ++ 61 ∷ value) ∷ [])

-- The words write the part. A positional word is plain.
abbrev pub IsSpelt : Part → List Word → Type 0
IsSpelt (option name value) words = IsOption name value words
IsSpelt (flag name) words = words ≡ dashed name ∷ []
IsSpelt (word w) words = (words ≡ w ∷ []) × IsPlain w

-- The words write the parts one after another, and then nothing, or `--` and the last words, which are positional
-- whatever they begin with.
abbrev pub AreSpelt : List Part → List Word → List Word → Type 0
AreSpelt [] last words = ((words ≡ []) × (last ≡ [])) ⊎ (words ≡ codes "--" ∷ last)
AreSpelt (part ∷ parts) last words = (front : List Word) × (rest : List Word) × (words ≡ front ++ rest) × IsSpelt part front × AreSpelt parts last rest

-- Each option and each flag among the parts is one that the command takes.
abbrev pub AreKnown : Grammar → List Part → Type 0
AreKnown g [] = ⊤
AreKnown g (option name value ∷ parts) = (has_name g.options name ≡ true) × AreKnown g parts
AreKnown g (flag name ∷ parts) = (has_name g.flags name ≡ true) × AreKnown g parts
AreKnown g (word w ∷ parts) = AreKnown g parts

-- No option and no flag stands twice among the parts, and none of them was seen before.
abbrev pub AreOnce : List Word → List Part → Type 0
AreOnce seen [] = ⊤
AreOnce seen (option name value ∷ parts) = (has_name seen name ≡ false) × AreOnce (name ∷ seen) parts
AreOnce seen (flag name ∷ parts) = (has_name seen name ≡ false) × AreOnce (name ∷ seen) parts
AreOnce seen (word w ∷ parts) = AreOnce seen parts

-- The positional words among the parts, in their order.
abbrev pub positional : List Part → List Word
positional [] = []
positional (option name value ∷ parts) = positional parts
positional (flag name ∷ parts) = positional parts
positional (word w ∷ parts) = w ∷ positional parts

-- The words write these parts and these last words, each option and each flag is known and stands once, and there are
-- as many positional words as the command takes.
pub record IsLine (g : Grammar) (parts : List Part) (last words : List Word) : Type 0 where
  pub spelt : AreSpelt parts last words
  pub known : AreKnown g parts
  pub once : AreOnce [] parts
  pub count : length (positional parts ++ last) ≡ length g.words

-- The value of the option of this name, where it stands among the parts.
abbrev pub value_of : Word → List Part → Option Word
value_of n [] = None
value_of n (option m v ∷ parts) = if bytes_eq m n then Some v else value_of n parts
value_of n (flag m ∷ parts) = value_of n parts
value_of n (word w ∷ parts) = value_of n parts

-- The flag of this name stands among the parts.
abbrev pub has_flag : Word → List Part → Bool
has_flag n [] = false
has_flag n (option m v ∷ parts) = has_flag n parts
has_flag n (flag m ∷ parts) = bytes_eq m n || has_flag n parts
has_flag n (word w ∷ parts) = has_flag n parts
