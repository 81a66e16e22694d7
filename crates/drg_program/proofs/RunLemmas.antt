-- From the parts of an answer to the whole.
use Rattle.std.proofs.Common.{◌≡◌, ◌≢◌, ℕ, Bool, List, Option, Result, Ok, Err, refl, sym, subst, arith}
use Rattle.std.specs.Io.KnownBytes.{Appends}
use Rattle.drg_array.specs.declared.test.Test.{Test}
use Rattle.drg_array.specs.declared.claim.Claim.{Claim}
use Rattle.drg_array.specs.declared.claim.Class.{Class}
use Rattle.drg_replay.specs.Answers.{answer_of}
use Rattle.drg_replay.specs.declared.answer.ReplayFault.{ReplayFault}
use Rattle.drg_replay.specs.declared.answer.ReplayFault.TheVariants as fault
use Rattle.drg_report.specs.declared.verdict.Verdict.{Verdict}
use Rattle.drg_report.specs.declared.verdict.Verdict.TheVariants as verdict
use Rattle.drg_program.specs.Check.{status_of}
use Rattle.drg_program.specs.Input.{IsWithinLimit}
use Rattle.drg_program.specs.Replay.{Tells}
use Rattle.drg_program.specs.Run.{Answers, Decides, IsAnswerOf, IsBadAt, IsInGrammar, IsOutput}
use Rattle.drg_program.specs.Statuses.{IsEarly, IsRefusal}
use Rattle.drg_program.specs.declared.status.Status.{Status}
use Rattle.drg_program.specs.declared.status.Status.TheVariants.{Usage, BadInput, TooLong, OpenFault, ReadFault, WriteFault, Memory}
use Rattle.drg_words.specs.declared.command.Command.{Command}
use Rattle.drg_words.specs.declared.command.Command.TheVariants.{Check, Replay, Table, Sample, Graph, Census, Classical}
use Rattle.drg_program.proofs.ClassicalLemmas as classical
use Rattle.drg_program.proofs.GraphLemmas as graph

judged : (v : Verdict) (tests : List Test) (budget : ℕ) (json : Bool) (file : List ℕ) → IsAnswerOf (status_of v) (Check tests budget json file)
judged (verdict.Infeasible found) tests budget json file = tt
judged (verdict.Undecided found) tests budget json file = tt
judged (verdict.RefusedSpectrum found) tests budget json file = tt
judged (verdict.Survivor found) tests budget json file = tt

told : (claim : Claim) (answer : Result Class ReplayFault) (status : Status) (text file : List ℕ) → Tells claim answer status text → IsAnswerOf status (Replay file)
told claim (Ok class) status text file h = rw h.0 tt
told claim (Err (fault.NotMet line)) status text file h = rw h.0 tt
told claim (Err (fault.Open line)) status text file h = rw h.0 tt
told claim (Err (fault.Wide line)) status text file h = rw h.0 tt
told claim (Err fault.Memory) status text file h = absurd h

-- the status of what is written is an answer of the command
is_answer : (command : Command) (bytes : List ℕ) (status : Status) (text : List ℕ) → IsOutput command bytes status text → IsAnswerOf status command
is_answer (Check tests budget json file) bytes status text h =
    subst (λ (s : Status). IsAnswerOf s (Check tests budget json file)) (sym h.told) (judged h.verdict tests budget json file)
is_answer (Replay file) bytes status text h = told h.derivation.claim (answer_of h.derivation) status text file h.concludes.tells
is_answer (Table tests budget file) bytes status text h = rw h.told tt
is_answer (Sample seed count) bytes status text h = rw h.told tt
is_answer (Graph file) bytes status text h = graph.told h.answer status file h.told
is_answer (Census d k n) bytes status text h = rw h.told tt
is_answer (Classical file) bytes status text h = classical.told h.array status text file h.tells

-- and no refusal
no_refusal : (status : Status) (command : Command) → IsAnswerOf status command → IsRefusal status → ⊥
no_refusal Usage command answer refused = answer
no_refusal (BadInput line at) command answer refused = answer
no_refusal TooLong command answer refused = answer
no_refusal OpenFault command answer refused = answer
no_refusal ReadFault command answer refused = answer
no_refusal WriteFault command answer refused = answer
no_refusal Memory command answer refused = answer
no_refusal status command answer refused = refused

refused : (status : Status) → IsEarly status → IsRefusal status
refused WriteFault early = absurd early
refused status early = early

pub not_early : (command : Command) (bytes : List ℕ) (status : Status) (text : List ℕ) → IsOutput command bytes status text → IsEarly status → ⊥
not_early command bytes status text output early = no_refusal status command (is_answer command bytes status text output) (refused status early)

-- the status of what is written is none of a refusal
pub not_refused : (command : Command) (bytes : List ℕ) (status other : Status) (text : List ℕ) → IsOutput command bytes status text → status ≡ other
    → IsRefusal other → ⊥
not_refused command bytes status other text output same refusal =
    no_refusal status command (is_answer command bytes status text output) (subst (λ (s : Status). IsRefusal s) (sym same) refusal)

-- what was written whole is the answer of its status
pub whole : (command : Command) (bytes : List ℕ) (status : Status) (text : List ℕ) (old new : Option (List ℕ)) → IsWithinLimit bytes
    → IsOutput command bytes status text → Appends old new text → Answers command bytes status old new
whole command bytes Usage text old new short output appended = absurd (is_answer command bytes Usage text output)
whole command bytes (BadInput line at) text old new short output appended = absurd (is_answer command bytes (BadInput line at) text output)
whole command bytes TooLong text old new short output appended = absurd (is_answer command bytes TooLong text output)
whole command bytes OpenFault text old new short output appended = absurd (is_answer command bytes OpenFault text output)
whole command bytes ReadFault text old new short output appended = absurd (is_answer command bytes ReadFault text output)
whole command bytes WriteFault text old new short output appended = absurd (is_answer command bytes WriteFault text output)
whole command bytes Memory text old new short output appended = absurd (is_answer command bytes Memory text output)
whole command bytes status text old new short output appended = (short, (text, output, appended))

in_grammar : (command : Command) (bytes : List ℕ) (status : Status) (text : List ℕ) → IsOutput command bytes status text → IsInGrammar command bytes
in_grammar (Check tests budget json file) bytes status text h = (h.array, h.read)
in_grammar (Replay file) bytes status text h = (h.n, h.derivation, h.begins)
in_grammar (Table tests budget file) bytes status text h = (h.rows, h.read)
in_grammar (Sample seed count) bytes status text h = tt
in_grammar (Graph file) bytes status text h = (h.graph, h.read)
in_grammar (Census d k n) bytes status text h = tt
in_grammar (Classical file) bytes status text h = (h.array, h.read)

not_in_grammar : (command : Command) (bytes : List ℕ) (line at : ℕ) → IsBadAt command bytes line at → IsInGrammar command bytes → ⊥
not_in_grammar (Check tests budget json file) bytes line at (one, (none, kind, fault)) (a, is) = none a is
not_in_grammar (Replay file) bytes line at (zero, (none, refused)) (n, δ, begins) = none n δ begins
not_in_grammar (Table tests budget file) bytes line at (none, fault) (rows, read) = none (rows, read)
not_in_grammar (Sample seed count) bytes line at bad good = absurd bad
not_in_grammar (Graph file) bytes line at (zero, (none, fault)) (g, read) = none (g, read)
not_in_grammar (Census d k n) bytes line at bad good = absurd bad
not_in_grammar (Classical file) bytes line at (one, (none, kind, fault)) (a, is) = none a is

written : (command : Command) (bytes : List ℕ) (status : Status) (text : List ℕ) → IsWithinLimit bytes → IsOutput command bytes status text
    → Decides command bytes status
written command bytes status text short output = record {
  long = λ long. absurd (omega (arith, short, long));
  bad = λ _ none. absurd (none (in_grammar command bytes status text output));
  good = λ _ _. is_answer command bytes status text output;
}

-- where nothing failed, the bytes decide
pub decided : (command : Command) (bytes : List ℕ) (status : Status) (old new : Option (List ℕ)) → Answers command bytes status old new
    → status ≢ OpenFault → status ≢ ReadFault → status ≢ WriteFault → status ≢ Memory → Decides command bytes status
decided command bytes Usage old new answers opened read write memory = absurd answers
decided command bytes (BadInput line at) old new (short, bad) opened read write memory = record {
  long = λ long. absurd (omega (arith, short, long));
  bad = λ _ _. (line, at, refl);
  good = λ _ good. absurd (not_in_grammar command bytes line at bad good);
}
decided command bytes TooLong old new long opened read write memory = record {
  long = λ _. refl;
  bad = λ short _. absurd (omega (arith, short, long));
  good = λ short _. absurd (omega (arith, short, long));
}
decided command bytes OpenFault old new answers opened read write memory = absurd (opened refl)
decided command bytes ReadFault old new answers opened read write memory = absurd (read refl)
decided command bytes WriteFault old new answers opened read write memory = absurd (write refl)
decided command bytes Memory old new answers opened read write memory = absurd (memory refl)
decided command bytes status old new (short, (text, output, appended)) opened read write memory = written command bytes status text short output
