-- The answer of a derivation: that of the first line that decides.
use Rattle.std.specs.Prelude.{◌≡◌, ℕ, ◌+◌, ⊤, List, [], ◌∷◌, length, reverse, is_some, Result, Ok, Err, if◌then◌else◌}
use Rattle.drg_array.specs.Entries.{Entries}
use Rattle.drg_array.specs.declared.claim.Claim.{Claim}
use Rattle.drg_array.specs.declared.claim.Class.{Class}
use Rattle.drg_array.specs.declared.claim.Class.TheVariants.{Counting, Spectral}
use Rattle.drg_derivation.specs.Content.{Content}
use Rattle.drg_derivation.specs.declared.line.Line.{Line}
use Rattle.drg_replay.specs.declared.refusal.Refusal.{Refusal}
use Rattle.drg_replay.specs.declared.refusal.Refusal.TheVariants as refusal
use Rattle.drg_replay.specs.declared.refusal.Fault.{Fault}
use Rattle.drg_replay.specs.declared.refusal.Fault.TheVariants as fault
use Rattle.drg_replay.specs.declared.progress.Progress.{Progress}
use Rattle.drg_replay.specs.declared.progress.Progress.TheVariants.{AllMet, Decided}
use Rattle.drg_replay.specs.declared.answer.ReplayFault.{ReplayFault}
use Rattle.drg_replay.specs.declared.answer.ReplayFault.TheVariants as answer
use Rattle.drg_replay.specs.Known.{KnownContent}
use Rattle.drg_replay.specs.Steps.{Step, first_failure}
use Rattle.drg_replay.specs.Lines.{known_at_start, known_after, known_of, asked_of, steps_of}
use Rattle.drg_replay.specs.Claims.{claim_is_met, closing_steps}

-- the condition of a line on what is known before it, and what it comes to
abbrev pub outcome : KnownContent → Line → Result ⊤ Refusal
outcome k line = first_failure (asked_of k line)

-- each of these lines is met after those before it; the newest of them stands first
abbrev pub AllAreMet : Entries → Claim → List Line → Type 0
AllAreMet a claim [] = ⊤
AllAreMet a claim (line ∷ earlier) =
    AllAreMet a claim earlier × (outcome (known_of a claim earlier) line ≡ Ok tt)

-- lines that are all met so far, after one that comes to this and has this number
abbrev pub decided_by : Result ⊤ Refusal → KnownContent → ℕ → Progress
decided_by (Ok t) after n = AllMet after
decided_by (Err refusal) after n = Decided refusal n

-- one more line, which has this number
abbrev pub goes_on : Progress → Line → ℕ → Progress
goes_on (AllMet k) line n = decided_by (outcome k line) (known_after line k) n
goes_on (Decided refusal m) line n = Decided refusal m

-- what these lines come to, the newest of them first; the claim is line 3, and evidence begins at 4
abbrev pub progress_of : Entries → Claim → List Line → Progress
progress_of a claim [] =
    if claim_is_met a claim then AllMet (known_at_start a claim) else Decided refusal.NotMet 3
progress_of a claim (line ∷ earlier) =
    goes_on (progress_of a claim earlier) line (length earlier + 4)

-- the class of an accepted derivation: spectral where a `frame` line stands
abbrev pub accepted_class : KnownContent → Class
accepted_class k = if is_some k.frame then Spectral else Counting

-- the answer at the end line, which has this number, by what the end comes to after lines that are
-- all met
abbrev pub closed_by : Result ⊤ Refusal → Class → ℕ → Result Class ReplayFault
closed_by (Ok t) class n = Ok class
closed_by (Err refusal.NotMet) class n = Err (answer.Open n)
closed_by (Err refusal.Wide) class n = Err (answer.Wide n)

-- the answer at the end line, which has this number, after lines that come to that
abbrev pub answer_at : Progress → ℕ → Result Class ReplayFault
answer_at (AllMet k) n = closed_by (first_failure (closing_steps k)) (accepted_class k) n
answer_at (Decided refusal.NotMet m) n = Err (answer.NotMet m)
answer_at (Decided refusal.Wide m) n = Err (answer.Wide m)

-- the answer where the end comes after these lines, the newest of them first
abbrev pub answer_after : Entries → Claim → List Line → Result Class ReplayFault
answer_after a claim lines = answer_at (progress_of a claim lines) (length lines + 4)

-- the answer of a derivation; it is never `Memory`
abbrev pub answer_of : Content → Result Class ReplayFault
answer_of δ = answer_after δ.array δ.claim (reverse δ.lines)

-- a call that takes what these steps ask: what they come to, and what it has then; a refusal and
-- want of memory change nothing
abbrev pub Takes : {A : Type 0} → Result ⊤ Fault → List Step → A → A → A → Type 0
Takes (Ok t) steps old after new = (first_failure steps ≡ Ok tt) × (new ≡ after)
Takes (Err (fault.Refused r)) steps old after new = (first_failure steps ≡ Err r) × (new ≡ old)
Takes (Err fault.Memory) steps old after new = new ≡ old

-- a call that takes a line: what the line comes to, and what is known then; a refusal and want of
-- memory change nothing
abbrev pub TakesLine : Result ⊤ Fault → Line → KnownContent → KnownContent → Type 0
TakesLine (Ok t) line old new = (outcome old line ≡ Ok tt) × (new ≡ known_after line old)
TakesLine (Err (fault.Refused r)) line old new = (outcome old line ≡ Err r) × (new ≡ old)
TakesLine (Err fault.Memory) line old new = new ≡ old

-- the same for a call that looks at the rule of the line alone
abbrev pub FollowsRule : Result ⊤ Fault → Line → KnownContent → KnownContent → Type 0
FollowsRule result line old new = Takes result (steps_of old line) old (known_after line old) new

-- a call that finds a value where these steps pass
abbrev pub Makes : {A : Type 0} → Result A Fault → List Step → A → Type 0
Makes (Ok x) steps made = (first_failure steps ≡ Ok tt) × (x ≡ made)
Makes (Err (fault.Refused r)) steps made = first_failure steps ≡ Err r
Makes (Err fault.Memory) steps made = ⊤
