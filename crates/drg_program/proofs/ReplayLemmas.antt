-- From the answer of the replayer to the report.
use Rattle.std.proofs.Common.{◌≡◌, ◌≢◌, ℕ, List, Result, Ok, Err, subst, ◌∙◌}
use Rattle.drg_array.specs.declared.claim.Claim.{Claim}
use Rattle.drg_array.specs.declared.claim.Class.{Class}
use Rattle.drg_array.specs.declared.claim.Class.TheVariants.{Counting, Spectral}
use Rattle.drg_derivation.specs.Content.{Content}
use Rattle.drg_graph.specs.Graph.{NoGraph}
use Rattle.drg_replay.specs.Answers.{answer_of}
use Rattle.drg_replay.specs.Spectral.{SpectralHolds}
use Rattle.drg_replay.specs.declared.answer.ReplayFault.{ReplayFault}
use Rattle.drg_replay.specs.declared.answer.ReplayFault.TheVariants.{NotMet, Open, Wide, Memory}
use Rattle.drg_program.specs.Replay.{Concludes, Tells}
use Rattle.drg_program.specs.declared.status.Status.{Status}

-- want of memory is told as no answer
not_memory : (claim : Claim) (answer : Result Class ReplayFault) (status : Status) (text : List ℕ) → Tells claim answer status text → answer ≢ Err Memory
not_memory claim (Ok class) status text h = λ e. cc
not_memory claim (Err (NotMet line)) status text h = λ e. cc
not_memory claim (Err (Open line)) status text h = λ e. cc
not_memory claim (Err (Wide line)) status text h = λ e. cc
not_memory claim (Err Memory) status text h = λ e. h

pub concludes : (δ : Content) (answer : Result Class ReplayFault) (status : Status) (text : List ℕ)
    → (answer ≢ Err Memory → answer ≡ answer_of δ) → (answer ≡ Ok Counting → NoGraph δ.array)
    → (answer ≡ Ok Spectral → SpectralHolds δ)
    → Tells δ.claim answer status text → Concludes δ status text
concludes δ answer status text is graph spectral tells =
    let same = is (not_memory δ.claim answer status text tells) in
    record {
      tells = subst (λ (x : Result Class ReplayFault). Tells δ.claim x status text) same tells;
      graph = λ accepted. graph (same ∙ accepted);
      spectral = λ accepted. spectral (same ∙ accepted);
    }
