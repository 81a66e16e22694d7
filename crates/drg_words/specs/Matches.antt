-- The commands as `clap` is told them, and what its matches hold of the parts of the words.
use Rattle.std.specs.Prelude.{◌≡◌, ℕ, Bool, List, [], ◌∷◌, ◌++◌, Option, Some, None, true, false, codes, map, if◌then◌else◌}
use Rattle.std.specs.Str.{bytes_eq}
use Rattle.clap.specs.declared.builder.arg.Arg.{Arg}
use Rattle.clap.specs.declared.builder.command.Command.{Command as Builder}
use Rattle.clap.specs.declared.builder.command.Command.TheViews.{out-Command}
use Rattle.clap.specs.declared.builder.action.ArgAction.TheVariants.{Set, SetTrue}
use Rattle.clap.specs.Words.{App, Rule, Shape, app_of, first_of, new_app, new_rule, one_of, rule_of, with_rule, with_subcommand}
use Rattle.clap.specs.Walk.{Row}
use Rattle.drg_array.specs.declared.test.Test.{Test}
use Rattle.drg_words.specs.Grammar.{Grammar, Part, Word, has_flag, has_name, positional, value_of}
use Rattle.drg_words.specs.Commands.{Says, census_grammar, check_grammar, file_grammar, sample_grammar, table_grammar}
use Rattle.drg_words.specs.declared.command.Command.{Command}
use Rattle.drg_words.specs.declared.command.Command.TheVariants.{Check, Replay, Table, Sample, Graph, Census, Classical}

-- An option with a value, as `clap` is told it.
abbrev pub option_rule : Word → Rule
option_rule name = record (new_rule name) { long = Some name; action = Some Set }

-- A flag, as `clap` is told it.
abbrev pub flag_rule : Word → Rule
flag_rule name = record (new_rule name) { long = Some name; action = Some SetTrue }

-- A positional word that must stand, as `clap` is told it.
abbrev pub word_rule : Word → Rule
word_rule name = record (new_rule name) { action = Some Set; required = true }

-- A command that takes a file and nothing else, as `clap` is told it.
abbrev pub file_shape : Word → Shape
file_shape name = (with_rule (new_app name) (word_rule (codes "FILE"))).top

-- `check`, as `clap` is told it.
abbrev pub check_shape : Shape
check_shape = (with_rule (with_rule (with_rule (with_rule (new_app (codes "check")) (option_rule (codes "tests"))) (option_rule (codes "budget"))) (flag_rule (codes "json"))) (word_rule (codes "FILE"))).top

-- `table`, as `clap` is told it.
abbrev pub table_shape : Shape
table_shape = (with_rule (with_rule (with_rule (new_app (codes "table")) (option_rule (codes "tests"))) (option_rule (codes "budget"))) (word_rule (codes "FILE"))).top

-- `sample`, as `clap` is told it.
abbrev pub sample_shape : Shape
sample_shape = (with_rule (with_rule (new_app (codes "sample")) (word_rule (codes "SEED"))) (word_rule (codes "COUNT"))).top

-- `census`, as `clap` is told it.
abbrev pub census_shape : Shape
census_shape = (with_rule (with_rule (with_rule (new_app (codes "census")) (word_rule (codes "D"))) (word_rule (codes "K"))) (word_rule (codes "N"))).top

-- The program without its commands, as `clap` is told it: its own name isn't among the words, there is no help and no
-- version, and a command must stand.
abbrev pub bare : App
bare = record {
  top = record (new_app (codes "drg")).top {
    no_binary_name = true;
    disable_help_flag = true;
    disable_help_subcommand = true;
    disable_version_flag = true;
    subcommand_required = true;
  };
  subs = [];
}

-- The program with its commands, as `clap` is told it.
abbrev pub drg_app : App
drg_app =
    with_subcommand (with_subcommand (with_subcommand (with_subcommand (with_subcommand (with_subcommand (with_subcommand bare
    check_shape) (file_shape (codes "replay"))) table_shape) sample_shape) (file_shape (codes "graph"))) census_shape) (file_shape (codes "classical"))

-- The commands of the program, each by its name and its grammar.
abbrev pub commands : List (Word × Grammar)
commands =
    (codes "check", check_grammar) ∷ (codes "replay", file_grammar) ∷ (codes "table", table_grammar) ∷ (codes "sample", sample_grammar)
    ∷ (codes "graph", file_grammar) ∷ (codes "census", census_grammar) ∷ (codes "classical", file_grammar) ∷ []

-- The grammar of the command of this name.
abbrev pub grammar_named : List (Word × Grammar) → Word → Option Grammar
grammar_named [] name = None
grammar_named (c ∷ more) name = if bytes_eq c.0 name then Some c.1 else grammar_named more name

-- The argument is told by this rule, and isn't one of all commands.
abbrev pub IsArg : Arg → Rule → Type 0
IsArg arg rule = (rule_of arg ≡ rule) × (arg.global ≡ false)

-- The command has this shape, and no argument of it is one of all commands.
abbrev pub IsSub : Builder → Shape → Type 0
IsSub c shape = (app_of c ≡ record { top = shape; subs = [] }) × ((out-Command c).has_globals ≡ false)

-- The rows of the matches hold the values of the options, the flags and the positional words of these parts and last
-- words.
pub record Tells (g : Grammar) (parts : List Part) (last : List Word) (rows : List Row) : Type 0 where
  pub options : (n : Word) → has_name g.options n ≡ true → first_of n rows ≡ value_of n parts
  pub flags : (n : Word) → has_name g.flags n ≡ true → one_of n rows ≡ Some (if has_flag n parts then codes "true" else codes "false")
  pub words : map (λ n. first_of n rows) g.words ≡ map Some (positional parts ++ last)

-- The command is a check, and the parts and the last words say it.
abbrev pub SaysCheck : List Part → List Word → Command → Type 0
SaysCheck parts last command =
    (tests : List Test) × (budget : ℕ) × (json : Bool) × (file : Word)
    × (command ≡ Check tests budget json file) × Says (Check tests budget json file) parts last

-- The command is a replay, and the parts and the last words say it.
abbrev pub SaysReplay : List Part → List Word → Command → Type 0
SaysReplay parts last command = (file : Word) × (command ≡ Replay file) × Says (Replay file) parts last

-- The command is a table, and the parts and the last words say it.
abbrev pub SaysTable : List Part → List Word → Command → Type 0
SaysTable parts last command =
    (tests : List Test) × (budget : ℕ) × (file : Word) × (command ≡ Table tests budget file) × Says (Table tests budget file) parts last

-- The command is a sample, and the parts and the last words say it.
abbrev pub SaysSample : List Part → List Word → Command → Type 0
SaysSample parts last command = (seed : ℕ) × (count : ℕ) × (command ≡ Sample seed count) × Says (Sample seed count) parts last

-- The command is one on a graph, and the parts and the last words say it.
abbrev pub SaysGraph : List Part → List Word → Command → Type 0
SaysGraph parts last command = (file : Word) × (command ≡ Graph file) × Says (Graph file) parts last

-- The command is a census, and the parts and the last words say it.
abbrev pub SaysCensus : List Part → List Word → Command → Type 0
SaysCensus parts last command = (d : ℕ) × (k : ℕ) × (n : ℕ) × (command ≡ Census d k n) × Says (Census d k n) parts last

-- The command is one on classical parameters, and the parts and the last words say it.
abbrev pub SaysClassical : List Part → List Word → Command → Type 0
SaysClassical parts last command = (file : Word) × (command ≡ Classical file) × Says (Classical file) parts last

-- The first proposition where the test is true, and else the second.
abbrev pub Either : Bool → Type 0 → Type 0 → Type 0
Either true Yes No = Yes
Either false Yes No = No

-- The command has this name, and the parts and the last words say it.
abbrev pub SaysNamed : Word → List Part → List Word → Command → Type 0
SaysNamed name parts last command =
    Either (bytes_eq (codes "check") name) (SaysCheck parts last command)
    (Either (bytes_eq (codes "replay") name) (SaysReplay parts last command)
    (Either (bytes_eq (codes "table") name) (SaysTable parts last command)
    (Either (bytes_eq (codes "sample") name) (SaysSample parts last command)
    (Either (bytes_eq (codes "graph") name) (SaysGraph parts last command)
    (Either (bytes_eq (codes "census") name) (SaysCensus parts last command)
    (Either (bytes_eq (codes "classical") name) (SaysClassical parts last command) ⊥))))))

-- All parts and last words of this grammar that the rows tell say the command.
abbrev pub Reads : Grammar → List Row → (List Part → List Word → Command → Type 0) → Command → Type 0
Reads g rows Meant command = (parts : List Part) (last : List Word) → Tells g parts last rows → Meant parts last command

-- No parts and last words of this grammar that the rows tell say a command.
abbrev pub ReadsNone : Grammar → List Row → (List Part → List Word → Command → Type 0) → Type 0
ReadsNone g rows Meant = (parts : List Part) (last : List Word) → Tells g parts last rows → (command : Command) → Meant parts last command → ⊥

-- All parts and last words that the rows tell, in the grammar of the command of this name, say the command.
abbrev pub ReadsNamed : Word → List Row → Command → Type 0
ReadsNamed name rows command = (g : Grammar) → grammar_named commands name ≡ Some g → Reads g rows (SaysNamed name) command

-- No parts and last words that the rows tell, in the grammar of the command of this name, say a command.
abbrev pub ReadsNoneNamed : Word → List Row → Type 0
ReadsNoneNamed name rows = (g : Grammar) → grammar_named commands name ≡ Some g → ReadsNone g rows (SaysNamed name)
