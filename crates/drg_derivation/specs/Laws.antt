-- What holds of every derivation text and of every reading.
use Rattle.std.specs.Prelude.{◌≡◌, ◌≢◌, ◌↔◌, ◌⊎◌, ℕ, List, [], ◌++◌, length, drop}
use Rattle.drg_derivation.specs.Content.{Content}
use Rattle.drg_derivation.specs.Text.{IsDerivationText, HasText, Begins, derivation_text, lines_of}
use Rattle.drg_derivation.specs.Places.{IsRefusedAt, IsBad, Reading, start, HandsOut, HandsOutAll, StopsAfter}
use Rattle.drg_derivation.specs.declared.place.Place.TheVariants.{After}
use Rattle.drg_derivation.specs.declared.view.LineView.{LineView}

-- a text is that of the derivation exactly where it is the written one
abbrev pub OneText : Type 0
OneText = (text : List ℕ) (δ : Content) → IsDerivationText text δ ↔ (HasText δ × (text ≡ derivation_text δ))

-- a text is that of one derivation
abbrev pub OneDerivation : Type 0
OneDerivation = (text : List ℕ) (δ ε : Content) → IsDerivationText text δ → IsDerivationText text ε → δ ≡ ε

-- bytes begin with one derivation, and it has one length
abbrev pub OneBeginning : Type 0
OneBeginning = (bytes : List ℕ) (m n : ℕ) (δ ε : Content) → Begins bytes m δ → Begins bytes n ε → (m ≡ n) × (δ ≡ ε)

-- no text is a proper prefix of another
abbrev pub NoPrefix : Type 0
NoPrefix = (text more : List ℕ) (δ ε : Content) → IsDerivationText text δ → IsDerivationText (text ++ more) ε → more ≡ []

-- bytes begin with a derivation, or are refused at a line
abbrev pub BeginsOrRefused : Type 0
BeginsOrRefused = (bytes : List ℕ) → ((n : ℕ) × (δ : Content) × Begins bytes n δ) ⊎ ((number : ℕ) × IsRefusedAt bytes number)

-- bytes that begin with a derivation are refused at no line
abbrev pub NotBoth : Type 0
NotBoth = (bytes : List ℕ) (n number : ℕ) (δ : Content) → Begins bytes n δ → IsRefusedAt bytes number → ⊥

-- bytes are refused at one line
abbrev pub OneRefusal : Type 0
OneRefusal = (bytes : List ℕ) (m n : ℕ) → IsRefusedAt bytes m → IsRefusedAt bytes n → m ≡ n

-- before the end a line reader hands out a line, or there is one to refuse
abbrev pub LineOrRefusal : Type 0
LineOrRefusal = (reading : Reading) → reading.place ≢ After
    → ((line : LineView) × (next : Reading) × HandsOut reading line next) ⊎ IsBad reading.place reading.rest

-- where a line reader hands out a line there is none to refuse
abbrev pub NotLineAndRefusal : Type 0
NotLineAndRefusal = (reading next : Reading) (line : LineView) → HandsOut reading line next → IsBad reading.place reading.rest → ⊥

-- what a line reader hands out first is determined
abbrev pub OneLine : Type 0
OneLine = (reading one other : Reading) (line twin : LineView) → HandsOut reading line one → HandsOut reading twin other → (line ≡ twin) × (one ≡ other)

-- of bytes that begin with a derivation a line reader hands out its lines, and stands behind it then
abbrev pub SameLines : Type 0
SameLines = (bytes : List ℕ) (n : ℕ) (δ : Content) → Begins bytes n δ
    → HandsOutAll (start bytes) (lines_of δ) (record { place = After; rest = drop n bytes; line = length (lines_of δ) })

-- the lines that a line reader has handed out where it comes to the end are those of a derivation
-- with which the bytes begin
pub record AreLinesOfDerivation (bytes : List ℕ) (lines : List LineView) (last : Reading) : Type 0 where
  pub n : ℕ
  pub derivation : Content
  pub begins : Begins bytes n derivation
  pub lines_are : lines ≡ lines_of derivation
  pub rest : last.rest ≡ drop n bytes

abbrev pub LinesOfDerivation : Type 0
LinesOfDerivation = (bytes : List ℕ) (lines : List LineView) (last : Reading) → HandsOutAll (start bytes) lines last → last.place ≡ After
    → AreLinesOfDerivation bytes lines last

-- of bytes that are refused a line reader refuses the same line
abbrev pub SameRefusal : Type 0
SameRefusal = (bytes : List ℕ) (number : ℕ) → IsRefusedAt bytes number ↔ StopsAfter (start bytes) number
