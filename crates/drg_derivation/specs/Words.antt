-- A line as it is written: one or two words and numbers, with exactly one space before each but the first.
use Rattle.std.specs.Prelude.{◌≡◌, ◌≤◌, ℕ, ℤ, pos, Bool, true, false, Option, None, Some, is_some, List, [], ◌∷◌, ◌++◌, map, codes}
use Rattle.std.specs.List.{AllByRecursion}
use Rattle.drg_array.specs.Entries.{Entries, diameter}
use Rattle.drg_array.specs.Claims.{name_text, name_of, indices_of}
use Rattle.drg_array.specs.declared.claim.Claim.{Claim as TheClaim}
use Rattle.drg_array.specs.declared.claim_name.ClaimName.{ClaimName}
use Rattle.drg_derivation.specs.Integers.{AreIntegers, integers_text}
use Rattle.drg_derivation.specs.Lines.{kind_of, numbers_of}
use Rattle.drg_derivation.specs.Shapes.{form_of}
use Rattle.drg_derivation.specs.declared.word.Word.{Word}
use Rattle.drg_derivation.specs.declared.word.Word.TheVariants.{Drg, Array, Claim, Evidence, End}
use Rattle.drg_derivation.specs.declared.view.LineView.{LineView}
use Rattle.drg_derivation.specs.declared.view.LineView.TheVariants as view

pub record Written : Type 0 where
  pub word : Word
  pub name : Option ClaimName
  pub numbers : List ℤ

abbrev pub word_text : Word → List ℕ
word_text Drg = codes "drg"
word_text Array = codes "array"
word_text Claim = codes "claim"
word_text (Evidence kind) = (form_of kind).word
word_text End = codes "end"

-- the name of a claim follows as a second word
abbrev pub takes_name : Word → Bool
takes_name Claim = true
takes_name _ = false

-- a second word, with a space before it
abbrev pub second_text : Option ClaimName → List ℕ
second_text None = []
second_text (Some name) = 32 ∷ name_text name

abbrev pub words_text : Written → List ℕ
words_text line = word_text line.word ++ second_text line.name

-- the text, without its line end, is the words and the numbers
pub record IsWrittenText (text : List ℕ) (line : Written) : Type 0 where
  pub numbers : List ℕ
  pub whole : text ≡ words_text line ++ numbers
  pub named : takes_name line.word ≡ is_some line.name
  pub numbers_are : AreIntegers numbers line.numbers

abbrev pub written_text : Written → List ℕ
written_text line = words_text line ++ integers_text line.numbers

-- d, b_0, .., b_(d-1), c_1, .., c_d
abbrev pub array_numbers : Entries → List ℤ
array_numbers a = pos (diameter a) ∷ map pos (a.b ++ a.c)

-- a line of a derivation as it is written
abbrev pub written : LineView → Written
written (view.Version version) = record { word = Drg; name = None; numbers = pos version ∷ [] }
written (view.Array array) = record { word = Array; name = None; numbers = array_numbers array }
written (view.Claim claim) = record { word = Claim; name = Some (name_of claim); numbers = map pos (indices_of claim) }
written (view.Evidence line) = record { word = Evidence (kind_of line); name = None; numbers = numbers_of line }
written view.End = record { word = End; name = None; numbers = [] }

-- the indices of a claim are from 0 to 255
abbrev pub IsClaim : TheClaim → Type 0
IsClaim claim = AllByRecursion (λ n. n ≤ 255) (indices_of claim)
