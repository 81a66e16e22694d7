-- What lines come to that are all met.
use Rattle.std.proofs.Common.{◌≡◌, ℕ, ◌+◌, true, false, List, [], ◌∷◌, length, Ok, Err, refl, ap, ◌∙◌, subst, Bool}
use Rattle.std.specs.Prelude.{Result, ⊤, if◌then◌else◌}
use Rattle.drg_array.specs.Entries.{Entries}
use Rattle.drg_array.specs.declared.claim.Claim.{Claim}
use Rattle.drg_array.specs.declared.claim.Class.{Class}
use Rattle.drg_derivation.specs.declared.line.Line.{Line}
use Rattle.drg_replay.specs.declared.refusal.Refusal.{Refusal}
use Rattle.drg_replay.specs.declared.refusal.Refusal.TheVariants.{NotMet, Wide}
use Rattle.drg_replay.specs.declared.progress.Progress.{Progress}
use Rattle.drg_replay.specs.declared.progress.Progress.TheVariants.{AllMet, Decided}
use Rattle.drg_replay.specs.Known.{KnownContent}
use Rattle.drg_replay.specs.Steps.{first_failure}
use Rattle.drg_replay.specs.Lines.{known_at_start, known_after, known_of}
use Rattle.drg_replay.specs.Claims.{claim_is_met, closing_steps}
use Rattle.drg_replay.specs.Answers.{AllAreMet, outcome, decided_by, goes_on, progress_of, accepted_class, closed_by, answer_at}

-- what was known before the last of lines that are all met
pub record WentOn (p : Progress) (line : Line) (k : KnownContent) : Type 0 where
  pub before : KnownContent
  pub all_met : p ≡ AllMet before
  pub met : outcome before line ≡ Ok tt
  pub after : k ≡ known_after line before

decided : (r : Result ⊤ Refusal) (after k : KnownContent) (n : ℕ) → decided_by r after n ≡ AllMet k → (r ≡ Ok tt) × (k ≡ after)
decided (Ok t) after k n h = (refl, cc)
decided (Err refusal) after k n h = cc

went_on : (p : Progress) (line : Line) (n : ℕ) (k : KnownContent) → goes_on p line n ≡ AllMet k → WentOn p line k
went_on (AllMet before) line n k h =
    let d = decided (outcome before line) (known_after line before) k n h in
    record { before = before; all_met = refl; met = d.0; after = d.1 }
went_on (Decided r m) line n k h = cc

chosen : (b : Bool) (start k : KnownContent) → (if b then AllMet start else Decided NotMet 3) ≡ AllMet k → (b ≡ true) × (k ≡ start)
chosen true start k h = (refl, cc)
chosen false start k h = cc

-- lines that come to this are all met, and this is what they make known
pub all_are_met : (a : Entries) (claim : Claim) (lines : List Line) (k : KnownContent) → progress_of a claim lines ≡ AllMet k → AllAreMet a claim lines × (k ≡ known_of a claim lines)
all_are_met a claim [] k h = (tt, (chosen (claim_is_met a claim) (known_at_start a claim) k h).1)
all_are_met a claim (line ∷ earlier) k h =
    let w = went_on (progress_of a claim earlier) line (length earlier + 4) k h in
    let (met, are) = all_are_met a claim earlier w.before w.all_met in
    ((met, subst (λ b. outcome b line ≡ Ok tt) are w.met), w.after ∙ ap (known_after line) are)

-- and the claim is met too
pub claim_was_met : (a : Entries) (claim : Claim) (lines : List Line) (k : KnownContent) → progress_of a claim lines ≡ AllMet k → claim_is_met a claim ≡ true
claim_was_met a claim [] k h = (chosen (claim_is_met a claim) (known_at_start a claim) k h).0
claim_was_met a claim (line ∷ earlier) k h =
    let w = went_on (progress_of a claim earlier) line (length earlier + 4) k h in claim_was_met a claim earlier w.before w.all_met

-- the array and the claim stay in force
pub array_stays : (a : Entries) (claim : Claim) (lines : List Line) → (known_of a claim lines).array ≡ a
array_stays a claim [] = refl
array_stays a claim (line ∷ earlier) = array_stays a claim earlier

pub claim_stays : (a : Entries) (claim : Claim) (lines : List Line) → (known_of a claim lines).claim ≡ claim
claim_stays a claim [] = refl
claim_stays a claim (line ∷ earlier) = claim_stays a claim earlier

-- ---- accepted derivations

-- what was known at the end
pub record Accepted (p : Progress) (class : Class) : Type 0 where
  pub known : KnownContent
  pub all_met : p ≡ AllMet known
  pub closed : first_failure (closing_steps known) ≡ Ok tt
  pub class_is : class ≡ accepted_class known

closes : (r : Result ⊤ Refusal) (class found : Class) (n : ℕ) → closed_by r class n ≡ Ok found → (r ≡ Ok tt) × (found ≡ class)
closes (Ok t) class found n h = (refl, cc)
closes (Err NotMet) class found n h = cc
closes (Err Wide) class found n h = cc

pub accepted : (p : Progress) (class : Class) (n : ℕ) → answer_at p n ≡ Ok class → Accepted p class
accepted (AllMet k) class n h =
    let c = closes (first_failure (closing_steps k)) (accepted_class k) class n h in
    record { known = k; all_met = refl; closed = c.0; class_is = c.1 }
accepted (Decided NotMet m) class n h = cc
accepted (Decided Wide m) class n h = cc
