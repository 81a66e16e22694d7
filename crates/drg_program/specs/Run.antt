-- What a run of the program answers, and what it writes.
use Rattle.std.specs.Prelude.{◌≡◌, ℕ, List, Option, Result, Ok, Err, IsSome, ⊤}
use Rattle.std.specs.Io.KnownBytes.{Appends}
use Rattle.drg_outside.specs.Whole.{AppendsPart}
use Rattle.drg_array.specs.Entries.{Entries}
use Rattle.drg_derivation.specs.Content.{Content}
use Rattle.drg_derivation.specs.Text.{Begins}
use Rattle.drg_program.specs.Census.{AnswersCensus}
use Rattle.drg_program.specs.Check.{Checks, IsArrayOf, IsFaultAt}
use Rattle.drg_program.specs.Classical.{AnswersClassical}
use Rattle.drg_program.specs.Graph.{AnswersGraph, IsFaultInEdges, ListsEdges}
use Rattle.drg_program.specs.Input.{IsTooLong, IsWithinLimit}
use Rattle.drg_program.specs.Replay.{IsFaultInLine, Replays}
use Rattle.drg_program.specs.Sample.{AnswersSample}
use Rattle.drg_program.specs.Table.{AnswersTable, HasRows, IsFaultInRows}
use Rattle.drg_program.specs.Words.{file_of}
use Rattle.drg_program.specs.declared.output.Output.{Output}
use Rattle.drg_program.specs.declared.output.EarlyRefusal.{EarlyRefusal}
use Rattle.drg_program.specs.declared.output.EarlyRefusal.TheVariants as refusal
use Rattle.drg_program.specs.declared.status.Status.{Status}
use Rattle.drg_words.specs.declared.command.Command.{Command}
use Rattle.drg_words.specs.declared.command.Command.TheVariants.{Check, Replay, Table, Sample, Graph, Census, Classical}
use Rattle.drg_program.specs.declared.status.Status.TheVariants.{Survivor, Infeasible, RefusedSpectrum, Undecided, Accepted, Rejected, Done, Usage, BadInput, TooLong, OpenFault, ReadFault, WriteFault, Memory}

-- the bytes are in the grammar of the command's input
abbrev pub IsInGrammar : Command → List ℕ → Type 0
IsInGrammar (Check tests budget json file) bytes = (a : Entries) × IsArrayOf bytes a
IsInGrammar (Replay file) bytes = (n : ℕ) × (δ : Content) × Begins bytes n δ
IsInGrammar (Table tests budget file) bytes = HasRows bytes
IsInGrammar (Sample seed count) bytes = ⊤
IsInGrammar (Graph file) bytes = ListsEdges bytes
IsInGrammar (Census d k n) bytes = ⊤
IsInGrammar (Classical file) bytes = (a : Entries) × IsArrayOf bytes a

-- the bytes aren't in that grammar, and the first fault is in this line and place, where place 0 is the whole line;
-- the lines of a table are its records
abbrev pub IsBadAt : Command → List ℕ → ℕ → ℕ → Type 0
IsBadAt (Check tests budget json file) bytes line at = (line ≡ 1) × IsFaultAt bytes at
IsBadAt (Replay file) bytes line at = (at ≡ 0) × IsFaultInLine bytes line
IsBadAt (Table tests budget file) bytes line at = IsFaultInRows bytes line at
IsBadAt (Sample seed count) bytes line at = ⊥
IsBadAt (Graph file) bytes line at = (at ≡ 0) × IsFaultInEdges bytes line
IsBadAt (Census d k n) bytes line at = ⊥
IsBadAt (Classical file) bytes line at = (line ≡ 1) × IsFaultAt bytes at

-- the status of these bytes, and the text that is written
abbrev pub IsOutput : Command → List ℕ → Status → List ℕ → Type 0
IsOutput (Check tests budget json file) bytes status text = Checks bytes tests json status text
IsOutput (Replay file) bytes status text = Replays bytes status text
IsOutput (Table tests budget file) bytes status text = AnswersTable bytes tests status text
IsOutput (Sample seed count) bytes status text = AnswersSample seed count status text
IsOutput (Graph file) bytes status text = AnswersGraph bytes status text
IsOutput (Census d k n) bytes status text = AnswersCensus d k n status text
IsOutput (Classical file) bytes status text = AnswersClassical bytes status text

-- the status is an answer of the command, and no refusal
abbrev pub IsAnswerOf : Status → Command → Type 0
IsAnswerOf Survivor (Check tests budget json file) = ⊤
IsAnswerOf Infeasible (Check tests budget json file) = ⊤
IsAnswerOf RefusedSpectrum (Check tests budget json file) = ⊤
IsAnswerOf Undecided (Check tests budget json file) = ⊤
IsAnswerOf Accepted (Replay file) = ⊤
IsAnswerOf Rejected (Replay file) = ⊤
IsAnswerOf Undecided (Replay file) = ⊤
IsAnswerOf Done (Table tests budget file) = ⊤
IsAnswerOf Done (Sample seed count) = ⊤
IsAnswerOf Accepted (Graph file) = ⊤
IsAnswerOf Rejected (Graph file) = ⊤
IsAnswerOf Done (Census d k n) = ⊤
IsAnswerOf Done (Classical file) = ⊤
IsAnswerOf Undecided (Classical file) = ⊤
IsAnswerOf status command = ⊥

-- what a command makes of all bytes of its input: the status and the text, or the first fault in them
abbrev pub Finds : Command → List ℕ → Result Output EarlyRefusal → Type 0
Finds command bytes (Ok output) = IsOutput command bytes output.status output.text.items
Finds command bytes (Err (refusal.BadInput line at)) = IsBadAt command bytes line at
Finds command bytes (Err refusal.Memory) = ⊤
Finds command bytes (Err refusal) = ⊥

-- the command reads a file
abbrev pub ReadsFile : Command → Type 0
ReadsFile command = IsSome (file_of command)

-- what a refusal says of the command and of the bytes of its input
abbrev pub IsRefused : Command → List ℕ → EarlyRefusal → Type 0
IsRefused command bytes (refusal.BadInput line at) = IsWithinLimit bytes × IsBadAt command bytes line at
IsRefused command bytes refusal.TooLong = IsTooLong bytes
IsRefused command bytes refusal.OpenFault = ReadsFile command
IsRefused command bytes refusal.ReadFault = ReadsFile command
IsRefused command bytes refusal.Memory = ⊤

-- how a command ends: with the status and the text, or with a refusal
abbrev pub Ends : Command → List ℕ → Result Output EarlyRefusal → Type 0
Ends command bytes (Ok output) = IsWithinLimit bytes × IsOutput command bytes output.status output.text.items
Ends command bytes (Err refusal) = IsRefused command bytes refusal

-- the whole text of this status was appended
abbrev pub Writes : Command → List ℕ → Status → Option (List ℕ) → Option (List ℕ) → Type 0
Writes command bytes status old new = (text : List ℕ) × IsOutput command bytes status text × Appends old new text

-- a text was begun, and not all of it was appended
abbrev pub WritesPart : Command → List ℕ → Option (List ℕ) → Option (List ℕ) → Type 0
WritesPart command bytes old new =
    (status : Status) × (text : List ℕ) × IsOutput command bytes status text × AppendsPart old new text

-- What a status says of the bytes of the input, and of what was written. A status that is no refusal has its text written whole.
abbrev pub Answers : Command → List ℕ → Status → Option (List ℕ) → Option (List ℕ) → Type 0
Answers command bytes Usage old new = ⊥
Answers command bytes (BadInput line at) old new = IsRefused command bytes (refusal.BadInput line at)
Answers command bytes TooLong old new = IsRefused command bytes refusal.TooLong
Answers command bytes OpenFault old new = IsRefused command bytes refusal.OpenFault
Answers command bytes ReadFault old new = IsRefused command bytes refusal.ReadFault
Answers command bytes Memory old new = IsRefused command bytes refusal.Memory
Answers command bytes WriteFault old new = IsWithinLimit bytes × WritesPart command bytes old new
Answers command bytes status old new = IsWithinLimit bytes × Writes command bytes status old new

-- What the bytes decide where nothing failed.
pub record Decides (command : Command) (bytes : List ℕ) (status : Status) : Type 0 where
  pub long : IsTooLong bytes → status ≡ TooLong
  pub bad : IsWithinLimit bytes → (IsInGrammar command bytes → ⊥) → (line : ℕ) × (at : ℕ) × (status ≡ BadInput line at)
  pub good : IsWithinLimit bytes → IsInGrammar command bytes → IsAnswerOf status command
