-- The evidence lines of a derivation, and their numbers at their places.
use Rattle.std.specs.Prelude.{◌≡◌, ◌≤◌, ℕ, ℤ, pos, List, [], ◌∷◌, ◌++◌, length, take, drop, slice_index_or}
use Rattle.std.specs.List.{AllByRecursion}
use Rattle.drg_derivation.specs.Integers.{IsShort}
use Rattle.drg_derivation.specs.Reading.{integers_in, IsCounted}
use Rattle.drg_derivation.specs.Shapes.{form_of, first_of, Suits, context_after}
use Rattle.drg_derivation.specs.declared.context.Context.{Context}
use Rattle.drg_derivation.specs.declared.kind.Kind.{Kind}
use Rattle.drg_derivation.specs.declared.kind.Kind.TheVariants as kind
use Rattle.drg_derivation.specs.declared.line.Line.{Line}
use Rattle.drg_derivation.specs.declared.line.Line.TheVariants.{K, P, Frame, Theta, Prow, Qrow, Krein, Eq, Keq, Comb, Low, High, Split, Miss, Mod, Void}

-- a line's kind, the numbers that lead, and those that follow
pub record LineParts : Type 0 where
  pub kind : Kind
  pub leading : List ℤ
  pub tail : List ℤ

abbrev pub parts : Kind → List ℤ → List ℤ → LineParts
parts kind leading tail = record { kind = kind; leading = leading; tail = tail }

abbrev pub parts_of : Line → LineParts
parts_of (K values) = parts kind.K [] values
parts_of (P h i values) = parts kind.P (h ∷ i ∷ []) values
parts_of (Frame root) = parts kind.Frame (root ∷ []) []
parts_of (Theta i values) = parts kind.Theta (i ∷ []) values
parts_of (Prow i values) = parts kind.Prow (i ∷ []) values
parts_of (Qrow r values) = parts kind.Qrow (r ∷ []) values
parts_of (Krein i j values) = parts kind.Krein (i ∷ j ∷ []) values
parts_of (Eq a x y) = parts kind.Eq (a ∷ x ∷ y ∷ []) []
parts_of (Keq i j h part) = parts kind.Keq (i ∷ j ∷ h ∷ part ∷ []) []
parts_of (Comb m values) = parts kind.Comb (m ∷ []) values
parts_of (Low r s t v n) = parts kind.Low (r ∷ s ∷ t ∷ v ∷ n ∷ []) []
parts_of (High r s t v n) = parts kind.High (r ∷ s ∷ t ∷ v ∷ n ∷ []) []
parts_of (Split r s t v) = parts kind.Split (r ∷ s ∷ t ∷ v ∷ []) []
parts_of (Miss n) = parts kind.Miss (n ∷ []) []
parts_of (Mod n g) = parts kind.Mod (n ∷ g ∷ []) []
parts_of (Void r s t) = parts kind.Void (r ∷ s ∷ t ∷ []) []

abbrev pub kind_of : Line → Kind
kind_of line = (parts_of line).kind

-- the numbers after the word
abbrev pub numbers_of : Line → List ℤ
numbers_of line = (parts_of line).leading ++ (parts_of line).tail

-- the number at a place, or 0 past the end
abbrev pub at : List ℤ → ℕ → ℤ
at numbers i = slice_index_or numbers i (pos 0)

-- the line of a kind with these leading numbers and these that follow, of which it takes those that
-- its kind has
abbrev pub line_of : Kind → List ℤ → List ℤ → Line
line_of kind.K z values = K values
line_of kind.P z values = P (at z 0) (at z 1) values
line_of kind.Frame z values = Frame (at z 0)
line_of kind.Theta z values = Theta (at z 0) values
line_of kind.Prow z values = Prow (at z 0) values
line_of kind.Qrow z values = Qrow (at z 0) values
line_of kind.Krein z values = Krein (at z 0) (at z 1) values
line_of kind.Eq z values = Eq (at z 0) (at z 1) (at z 2)
line_of kind.Keq z values = Keq (at z 0) (at z 1) (at z 2) (at z 3)
line_of kind.Comb z values = Comb (at z 0) values
line_of kind.Low z values = Low (at z 0) (at z 1) (at z 2) (at z 3) (at z 4)
line_of kind.High z values = High (at z 0) (at z 1) (at z 2) (at z 3) (at z 4)
line_of kind.Split z values = Split (at z 0) (at z 1) (at z 2) (at z 3)
line_of kind.Miss z values = Miss (at z 0)
line_of kind.Mod z values = Mod (at z 0) (at z 1)
line_of kind.Void z values = Void (at z 0) (at z 1) (at z 2)

-- the line of a kind with these numbers
abbrev pub line_made : Kind → List ℤ → Line
line_made kind numbers = line_of kind (take (form_of kind).leading numbers) (drop (form_of kind).leading numbers)

-- the line takes all the numbers
abbrev pub IsMade : Kind → List ℤ → Type 0
IsMade kind numbers = ((form_of kind).leading ≤ length numbers) × (numbers_of (line_made kind numbers) ≡ numbers)

-- the text has nothing but so many numbers, and the line takes all of them
pub record IsLent (kind : Kind) (text : List ℕ) (count : ℕ) : Type 0 where
  pub counted : IsCounted text count
  pub made : IsMade kind (integers_in text)

-- the line has as many numbers as its kind has at its place
abbrev pub IsSuited : Context → Line → Type 0
IsSuited context line = Suits context (form_of (kind_of line)) (first_of (numbers_of line)) (length (numbers_of line))

abbrev pub after_line : Context → Line → Context
after_line context line = context_after context (kind_of line) (first_of (numbers_of line))

-- each line has as many numbers as its kind has at its place
abbrev pub AreEvidence : Context → List Line → Type 0
AreEvidence context [] = Unit {0}
AreEvidence context (line ∷ lines) = IsSuited context line × AreEvidence (after_line context line) lines

-- each number can be written
abbrev pub AreShort : List Line → Type 0
AreShort lines = AllByRecursion (λ line. AllByRecursion IsShort (numbers_of line)) lines

-- the lines can be written at their places
pub record AreFit (context : Context) (lines : List Line) : Type 0 where
  pub evidence : AreEvidence context lines
  pub short : AreShort lines
