-- The grammar of derivation texts.
use Rattle.std.specs.Prelude.{ℕ, ◌≤◌, List, [], ◌∷◌, ◌++◌, length, map, take}
use Rattle.drg_array.specs.Entries.{Entries, IsArray, diameter}
use Rattle.drg_derivation.specs.Content.{Content}
use Rattle.drg_derivation.specs.Lines.{AreEvidence, AreShort}
use Rattle.drg_derivation.specs.Places.{AreLinesFrom}
use Rattle.drg_derivation.specs.Shapes.{first_context}
use Rattle.drg_derivation.specs.Words.{IsClaim, written, written_text}
use Rattle.drg_derivation.specs.declared.context.Context.{Context}
use Rattle.drg_derivation.specs.declared.line.Line.{Line}
use Rattle.drg_derivation.specs.declared.place.Place.TheVariants as place
use Rattle.drg_derivation.specs.declared.view.LineView.{LineView}
use Rattle.drg_derivation.specs.declared.view.LineView.TheVariants.{Version, Array, Claim, Evidence, End}

abbrev pub evidence_views : List Line → List LineView
evidence_views lines = map Evidence lines

-- the lines of a derivation, of which the first says that this is version 1 of the text
abbrev pub lines_of : Content → List LineView
lines_of δ = Version 1 ∷ Array δ.array ∷ Claim δ.claim ∷ (evidence_views δ.lines ++ End ∷ [])

-- each line stands at its place, and one LF after each
abbrev pub IsDerivationText : List ℕ → Content → Type 0
IsDerivationText text δ = AreLinesFrom place.Version text (lines_of δ) place.After

-- what the array settles of the lines after the claim
abbrev pub context_of : Entries → Context
context_of array = first_context 1 (diameter array)

-- what has a text
pub record HasText (δ : Content) : Type 0 where
  pub array : IsArray δ.array
  pub claim : IsClaim δ.claim
  pub evidence : AreEvidence (context_of δ.array) δ.lines
  pub short : AreShort δ.lines

-- a line and its line end
abbrev pub line_text : LineView → List ℕ
line_text line = written_text (written line) ++ 10 ∷ []

abbrev pub written_texts : List LineView → List ℕ
written_texts [] = []
written_texts (line ∷ lines) = written_text (written line) ++ 10 ∷ written_texts lines

-- the one text
abbrev pub derivation_text : Content → List ℕ
derivation_text δ = written_texts (lines_of δ)

-- the first n bytes are the text of the derivation
pub record Begins (bytes : List ℕ) (n : ℕ) (δ : Content) : Type 0 where
  pub within : n ≤ length bytes
  pub text : IsDerivationText (take n bytes) δ
