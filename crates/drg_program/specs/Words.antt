-- Which words ask a run for a command, and which file the command reads.
use Rattle.std.specs.Prelude.{ℕ, List, Option, Some, None}
use Rattle.drg_words.specs.Commands.{AreWordsOf}
use Rattle.drg_words.specs.Grammar.{Word}
use Rattle.drg_words.specs.declared.command.Command.{Command}
use Rattle.drg_words.specs.declared.command.Command.TheVariants.{Check, Replay, Table, Sample, Graph, Census, Classical}

-- These are exactly the words of the command, with its options, its numbers and its file.
abbrev pub Asks : List Word → Command → Type 0
Asks words command = AreWordsOf command words

-- The words ask for some command.
abbrev pub IsAsked : List Word → Type 0
IsAsked words = (command : Command) × Asks words command

-- Some words ask for the command.
abbrev pub HasWords : Command → Type 0
HasWords command = (words : List Word) × Asks words command

-- The file that the command reads, where it reads one.
abbrev pub file_of : Command → Option (List ℕ)
file_of (Check tests budget json file) = Some file
file_of (Replay file) = Some file
file_of (Table tests budget file) = Some file
file_of (Sample seed count) = None
file_of (Graph file) = Some file
file_of (Census d k n) = None
file_of (Classical file) = Some file
