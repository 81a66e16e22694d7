-- Reading the words and the numbers of a line from left to right.
use Rattle.std.specs.Prelude.{ℕ, ◌==◌, if◌then◌else◌, List, [], ◌∷◌, Option, None, Some, bytes_eq}
use Rattle.drg_array.specs.Claims.{name_text, claim_names}
use Rattle.drg_array.specs.declared.claim_name.ClaimName.{ClaimName}
use Rattle.drg_derivation.specs.Reading.{◌>>=◌, after_byte, integers_of}
use Rattle.drg_derivation.specs.Shapes.{form_of}
use Rattle.drg_derivation.specs.Words.{Written, word_text, takes_name}
use Rattle.drg_derivation.specs.declared.kind.Kind.{Kind}
use Rattle.drg_derivation.specs.declared.kind.TheConstants.{KINDS}
use Rattle.drg_derivation.specs.declared.word.Word.{Word}
use Rattle.drg_derivation.specs.declared.word.Word.TheVariants.{Evidence}
use Rattle.drg_derivation.specs.declared.word.TheConstants.{OTHER_WORDS}

-- the bytes before the first space, and those from it on
abbrev pub word_part : List ℕ → List ℕ
word_part [] = []
word_part (c ∷ cs) = if c == 32 then [] else c ∷ word_part cs

abbrev pub rest_part : List ℕ → List ℕ
rest_part [] = []
rest_part (c ∷ cs) = if c == 32 then c ∷ cs else rest_part cs

-- the first of these words whose text this is
abbrev pub named : {A : Type 0} → (A → List ℕ) → List A → List ℕ → Option A
named name [] text = None
named name (x ∷ xs) text = if bytes_eq text (name x) then Some x else named name xs text

unfoldable pub name_named : List ℕ → Option ClaimName
name_named text = named name_text claim_names text

abbrev pub kind_word : Kind → List ℕ
kind_word kind = (form_of kind).word

unfoldable pub kind_named : List ℕ → Option Kind
kind_named text = named kind_word KINDS text

unfoldable pub other_word : List ℕ → Option Word
other_word text = named word_text OTHER_WORDS text

-- the word of an evidence line, where there is a kind, or else another
abbrev pub word_of : Option Kind → Option Word → Option Word
word_of None other = other
word_of (Some kind) other = Some (Evidence kind)

unfoldable pub word_named : List ℕ → Option Word
word_named text = word_of (kind_named text) (other_word text)

-- the first word, and what follows it
unfoldable pub word_at : List ℕ → Option (Word × List ℕ)
word_at text = word_named (word_part text) >>= λ word. Some (word, rest_part text)

-- the name of a claim after a space, and what follows it
unfoldable pub second_at : List ℕ → Option (Option ClaimName × List ℕ)
second_at rest = after_byte 32 rest >>= λ after. name_named (word_part after) >>= λ name. Some (Some name, rest_part after)

-- the second word, where the first takes one, and what follows it
unfoldable pub name_at : Word → List ℕ → Option (Option ClaimName × List ℕ)
name_at word rest = if takes_name word then second_at rest else Some (None, rest)

-- the words and the numbers of a line
unfoldable pub written_at : List ℕ → Option Written
written_at text = do
  word ← word_at text
  name ← name_at word.0 word.1
  numbers ← integers_of name.1
  Some (record { word = word.0; name = name.0; numbers = numbers })
