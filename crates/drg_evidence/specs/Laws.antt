-- A derivation with the lines of a claim that the array fails has a text and is accepted.
use Rattle.std.specs.Prelude.{◌≡◌, ℕ, ◌≤◌, Ok}
use Rattle.drg_array.specs.Entries.{Entries, IsArray, diameter}
use Rattle.drg_array.specs.Claims.{class_of}
use Rattle.drg_array.specs.Conditions.{CountsFail, IsPlace}
use Rattle.drg_array.specs.declared.claim.Claim.TheVariants.{Mult}
use Rattle.drg_array.specs.declared.claim.Class.TheVariants.{Spectral}
use Rattle.drg_bounds.specs.Multiplicities.{IsPositiveWhole}
use Rattle.drg_derivation.specs.Content.{Content}
use Rattle.drg_derivation.specs.Text.{HasText}
use Rattle.drg_matrix.specs.Frame.{multiplicity}
use Rattle.drg_quadratic.specs.Operations.{value_operations}
use Rattle.drg_replay.specs.Answers.{answer_of}
use Rattle.drg_evidence.specs.FrameLines.{frame_lines}
use Rattle.drg_evidence.specs.FrameValues.{FrameValues, HasFrame}
use Rattle.drg_evidence.specs.Lines.{AreLinesOf}
use Rattle.drg_evidence.specs.Made.{AreMade}

-- The array fails the claim, a claim on counts; the lines are those of the claim, and the numbers
-- on which it rests are made.
pub record ShowsCounts (derivation : Content) : Type 0 where
  pub array : IsArray derivation.array
  pub fails : CountsFail derivation.array derivation.claim
  pub lines : AreLinesOf derivation.array derivation.claim derivation.lines
  pub made : AreMade derivation.array derivation.claim

-- such a derivation is accepted, with the class of its claim
abbrev pub CountsAccepted : Type 0
CountsAccepted =
    (derivation : Content) → ShowsCounts derivation
    → answer_of derivation ≡ Ok (class_of derivation.claim)

-- and it has a text
abbrev pub CountsHaveText : Type 0
CountsHaveText = (derivation : Content) → ShowsCounts derivation → HasText derivation

-- the multiplicity m_i of the array isn't a positive whole number
pub record FailsMult (a : Entries) (i : ℕ) : Type 0 where
  pub place : IsPlace a i
  pub frame : FrameValues
  pub is : HasFrame a frame
  pub broken : ¬ IsPositiveWhole (value_operations frame.root) (multiplicity frame.dual i)

-- The array fails the claim mult i; the lines are those of the claim, and the numbers on which it
-- rests are made.
pub record ShowsMult (derivation : Content) (i : ℕ) : Type 0 where
  pub array : IsArray derivation.array
  pub claimed : derivation.claim ≡ Mult i
  pub fails : FailsMult derivation.array i
  pub lines : AreLinesOf derivation.array (Mult i) derivation.lines
  pub made : AreMade derivation.array (Mult i)

-- such a derivation is accepted with the class Spectral
abbrev pub MultAccepted : Type 0
MultAccepted =
    (derivation : Content) (i : ℕ) → ShowsMult derivation i → answer_of derivation ≡ Ok Spectral

-- and it has a text
abbrev pub MultHasText : Type 0
MultHasText = (derivation : Content) (i : ℕ) → ShowsMult derivation i → HasText derivation

-- two frames of an array have one root and the same values
pub record HaveSameValues (d : ℕ) (f g : FrameValues) : Type 0 where
  pub roots : f.root ≡ g.root
  pub thetas : (i : ℕ) → i ≤ d → f.theta i ≡ g.theta i
  pub cosines : (i r : ℕ) → i ≤ d → r ≤ d → f.cosine i r ≡ g.cosine i r
  pub eigen : (i j : ℕ) → i ≤ d → j ≤ d → f.eigen i j ≡ g.eigen i j
  pub dual : (r i : ℕ) → r ≤ d → i ≤ d → f.dual r i ≡ g.dual r i

abbrev pub OneFrameOfValues : Type 0
OneFrameOfValues =
    (a : Entries) (f g : FrameValues) → IsArray a → HasFrame a f → HasFrame a g
    → HaveSameValues (diameter a) f g

-- so the lines of the frame are one list
abbrev pub OneListOfFrameLines : Type 0
OneListOfFrameLines =
    (a : Entries) (f g : FrameValues) → IsArray a → HasFrame a f → HasFrame a g
    → frame_lines (diameter a) f ≡ frame_lines (diameter a) g
