-- Which lines stand at which place of a derivation, and where a text is refused.
use Rattle.std.specs.Prelude.{◌≡◌, ◌≢◌, ℕ, suc, List, [], ◌∷◌, ◌++◌, ◌⊎◌, length}
use Rattle.std.specs.List.{AllByRecursion}
use Rattle.drg_array.specs.Entries.{IsArray, diameter}
use Rattle.drg_derivation.specs.Lines.{IsSuited, after_line}
use Rattle.drg_derivation.specs.Shapes.{first_context}
use Rattle.drg_derivation.specs.Words.{IsClaim, IsWrittenText, written}
use Rattle.drg_derivation.specs.declared.place.Place.{Place}
use Rattle.drg_derivation.specs.declared.place.Place.TheVariants.{Version, Array, Claim, Evidence, After}
use Rattle.drg_derivation.specs.declared.view.LineView.{LineView}
use Rattle.drg_derivation.specs.declared.view.LineView.TheVariants as view

-- the line stands at the place
abbrev pub StandsAt : Place → LineView → Type 0
StandsAt Version (view.Version version) = version ≡ 1
StandsAt (Array version) (view.Array array) = IsArray array
StandsAt (Claim context) (view.Claim claim) = IsClaim claim
StandsAt (Evidence context) (view.Evidence line) = IsSuited context line
StandsAt (Evidence context) view.End = Unit {0}
StandsAt _ line = ⊥

-- the place after a line that stands at this place
abbrev pub next_place : Place → LineView → Place
next_place Version (view.Version version) = Array version
next_place (Array version) (view.Array array) = Claim (first_context version (diameter array))
next_place (Claim context) (view.Claim claim) = Evidence context
next_place (Evidence context) (view.Evidence line) = Evidence (after_line context line)
next_place _ line = After

-- the text, without its line end, is this line at its place
pub record IsLineAt (place : Place) (text : List ℕ) (line : LineView) : Type 0 where
  pub written : IsWrittenText text (written line)
  pub stands : StandsAt place line

-- from the first place to the last the text is these lines, each at its place, with one LF after each
abbrev pub AreLinesFrom : Place → List ℕ → List LineView → Place → Type 0
AreLinesFrom place text [] last = (text ≡ []) × (last ≡ place)
AreLinesFrom place text (line ∷ lines) last =
    (first : List ℕ) × (rest : List ℕ) × (text ≡ first ++ 10 ∷ rest) × IsLineAt place first line × AreLinesFrom (next_place place line) rest lines last

abbrev pub HasNoEnd : List ℕ → Type 0
HasNoEnd text = AllByRecursion (λ c. c ≢ 10) text

-- the bytes don't begin with a line of the place: their first line has no end, or isn't one
abbrev pub IsBad : Place → List ℕ → Type 0
IsBad place bytes =
    HasNoEnd bytes
    ⊎ ((first : List ℕ) × (more : List ℕ) × (bytes ≡ first ++ 10 ∷ more) × HasNoEnd first × ((line : LineView) → IsLineAt place first line → ⊥))

-- the line of this number, counted from 1, is the first that isn't one of its place
pub record IsRefusedAt (bytes : List ℕ) (number : ℕ) : Type 0 where
  pub before : List ℕ
  pub rest : List ℕ
  pub lines : List LineView
  pub place : Place
  pub whole : bytes ≡ before ++ rest
  pub lines_are : AreLinesFrom Version before lines place
  pub going : place ≢ After
  pub counted : number ≡ suc (length lines)
  pub bad : IsBad place rest

-- where a reader stands: its place, the bytes before it and the lines that it has read
pub record Reading : Type 0 where
  pub place : Place
  pub rest : List ℕ
  pub line : ℕ

-- before the first line
abbrev pub start : List ℕ → Reading
start bytes = record { place = Version; rest = bytes; line = 0 }

-- from one reading to the next by one line
pub record HandsOut (old : Reading) (line : LineView) (new : Reading) : Type 0 where
  pub text : List ℕ
  pub whole : old.rest ≡ text ++ 10 ∷ new.rest
  pub is : IsLineAt old.place text line
  pub place : new.place ≡ next_place old.place line
  pub counted : new.line ≡ suc old.line

-- the lines are handed out one after the other
abbrev pub HandsOutAll : Reading → List LineView → Reading → Type 0
HandsOutAll old [] new = new ≡ old
HandsOutAll old (line ∷ lines) new = (mid : Reading) × HandsOut old line mid × HandsOutAll mid lines new

-- no line is handed out any more, and the line of this number is refused
pub record Stops (reading : Reading) (number : ℕ) : Type 0 where
  pub going : reading.place ≢ After
  pub counted : number ≡ suc reading.line
  pub bad : IsBad reading.place reading.rest

-- after some lines the line of this number is refused
pub record StopsAfter (old : Reading) (number : ℕ) : Type 0 where
  pub lines : List LineView
  pub last : Reading
  pub hands : HandsOutAll old lines last
  pub stops : Stops last number

-- the array comes next
abbrev pub IsAtArray : Place → Type 0
IsAtArray (Array version) = Unit {0}
IsAtArray _ = ⊥

-- the claim comes next
abbrev pub IsAtClaim : Place → Type 0
IsAtClaim (Claim context) = Unit {0}
IsAtClaim _ = ⊥

-- the evidence lines and `end` come next
abbrev pub IsAmong : Place → Type 0
IsAmong (Evidence context) = Unit {0}
IsAmong _ = ⊥
