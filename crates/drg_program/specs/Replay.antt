-- What `replay` finds in a derivation.
use Rattle.std.specs.Prelude.{◌≡◌, ℕ, List, Result, Ok, Err}
use Rattle.drg_array.specs.declared.claim.Claim.{Claim}
use Rattle.drg_array.specs.declared.claim.Class.{Class}
use Rattle.drg_array.specs.declared.claim.Class.TheVariants.{Counting, Spectral}
use Rattle.drg_derivation.specs.Content.{Content}
use Rattle.drg_derivation.specs.Text.{Begins}
use Rattle.drg_derivation.specs.Places.{IsRefusedAt}
use Rattle.drg_graph.specs.Graph.{NoGraph}
use Rattle.drg_replay.specs.Answers.{answer_of}
use Rattle.drg_replay.specs.Spectral.{SpectralHolds}
use Rattle.drg_replay.specs.declared.answer.ReplayFault.{ReplayFault}
use Rattle.drg_replay.specs.declared.answer.ReplayFault.TheVariants.{NotMet, Open, Wide, Memory}
use Rattle.drg_program.specs.AnswerText.{accepted_text, rejected_text, open_text, wide_text}
use Rattle.drg_program.specs.declared.status.Status.{Status}
use Rattle.drg_program.specs.declared.status.Status.TheVariants.{Accepted, Rejected, Undecided}

-- the status and the line that is written for an answer
abbrev pub Tells : Claim → Result Class ReplayFault → Status → List ℕ → Type 0
Tells claim (Ok class) status text = (status ≡ Accepted) × (text ≡ accepted_text claim class)
Tells claim (Err (NotMet line)) status text = (status ≡ Rejected) × (text ≡ rejected_text line)
Tells claim (Err (Open line)) status text = (status ≡ Rejected) × (text ≡ open_text line)
Tells claim (Err (Wide line)) status text = (status ≡ Undecided) × (text ≡ wide_text line)
Tells claim (Err Memory) status text = ⊥

-- the status and the line of the derivation's answer
pub record Concludes (δ : Content) (status : Status) (text : List ℕ) : Type 0 where
  pub tells : Tells δ.claim (answer_of δ) status text
  -- what is accepted by counting excludes every graph
  pub graph : answer_of δ ≡ Ok Counting → NoGraph δ.array
  -- what is accepted with a frame says that its written numbers fail the condition of the claim
  pub spectral : answer_of δ ≡ Ok Spectral → SpectralHolds δ

-- a derivation stands at the front, and this is its status and its line
pub record Replays (bytes : List ℕ) (status : Status) (text : List ℕ) : Type 0 where
  -- how many bytes it has; those after them aren't looked at
  pub n : ℕ
  pub derivation : Content
  pub begins : Begins bytes n derivation
  pub concludes : Concludes derivation status text

abbrev pub HasNoDerivation : List ℕ → Type 0
HasNoDerivation bytes = (n : ℕ) (δ : Content) → Begins bytes n δ → ⊥

-- no derivation stands at the front, and the first line that isn't one of its place is this one
abbrev pub IsFaultInLine : List ℕ → ℕ → Type 0
IsFaultInLine bytes line = HasNoDerivation bytes × IsRefusedAt bytes line
