-- Which words are a command, with which tests, numbers and file.
use Rattle.std.specs.Prelude.{◌≡◌, ◌≤◌, ℕ, List, [], ◌∷◌, ◌++◌, Option, Some, None, codes, decimal, map, string_bytes}
use Rattle.std.specs.declared.alloc.Global.{Global}
use Rattle.std.specs.declared.string.String.{String}
use Rattle.drg_array.specs.TestLists.{IsTestList}
use Rattle.drg_array.specs.declared.test.Test.{Test}
use Rattle.drg_array.specs.declared.test_set.TheConstants.{BUILT}
use Rattle.drg_words.specs.Grammar.{Grammar, IsLine, Part, Word, has_flag, positional, value_of}
use Rattle.drg_words.specs.declared.command.Command.{Command}
use Rattle.drg_words.specs.declared.command.Command.TheVariants.{Check, Replay, Table, Sample, Graph, Census, Classical}

-- The words as the bytes of each.
abbrev pub words_of : List (String Global) → List Word
words_of words = map string_bytes words

-- `replay`, `graph` and `classical` take FILE and nothing else.
abbrev pub file_grammar : Grammar
file_grammar = record { options = []; flags = []; words = codes "FILE" ∷ [] }

-- `check` takes `--tests LIST`, `--budget N`, `--json` and FILE.
abbrev pub check_grammar : Grammar
check_grammar = record { options = codes "tests" ∷ codes "budget" ∷ []; flags = codes "json" ∷ []; words = codes "FILE" ∷ [] }

-- `table` takes `--tests LIST`, `--budget N` and FILE.
abbrev pub table_grammar : Grammar
table_grammar = record { options = codes "tests" ∷ codes "budget" ∷ []; flags = []; words = codes "FILE" ∷ [] }

-- `sample` takes SEED and COUNT.
abbrev pub sample_grammar : Grammar
sample_grammar = record { options = []; flags = []; words = codes "SEED" ∷ codes "COUNT" ∷ [] }

-- `census` takes D, K and N.
abbrev pub census_grammar : Grammar
census_grammar = record { options = []; flags = []; words = codes "D" ∷ codes "K" ∷ codes "N" ∷ [] }

-- The name of the command, which is the first of its words.
abbrev pub name_of : Command → Word
name_of (Check tests budget json file) = codes "check"
name_of (Replay file) = codes "replay"
name_of (Table tests budget file) = codes "table"
name_of (Sample seed count) = codes "sample"
name_of (Graph file) = codes "graph"
name_of (Census d k n) = codes "census"
name_of (Classical file) = codes "classical"

-- The grammar of the words after the name of the command.
abbrev pub grammar_of : Command → Grammar
grammar_of (Check tests budget json file) = check_grammar
grammar_of (Replay file) = file_grammar
grammar_of (Table tests budget file) = table_grammar
grammar_of (Sample seed count) = sample_grammar
grammar_of (Graph file) = file_grammar
grammar_of (Census d k n) = census_grammar
grammar_of (Classical file) = file_grammar

-- The tests of the value of `--tests`, and all built tests where the option isn't there.
abbrev pub AreTests : Option Word → List Test → Type 0
AreTests None tests = tests ≡ BUILT
AreTests (Some list) tests = IsTestList list tests

-- The number is from `least` to `most`.
abbrev pub IsBetween : ℕ → ℕ → ℕ → Type 0
IsBetween least most n = (least ≤ n) × (n ≤ most)

-- The word is the decimal digits of a number from `least` to `most`, without a sign and without a leading zero.
abbrev pub IsNumber : ℕ → ℕ → Word → ℕ → Type 0
IsNumber least most word n = (word ≡ decimal n) × IsBetween least most n

-- The number of the value of `--budget`, from 1 to 100,000, and 10,000 where the option isn't there.
abbrev pub IsBudget : Option Word → ℕ → Type 0
IsBudget None n = n ≡ 10000
IsBudget (Some digits) n = IsNumber 1 100000 digits n

-- The parts and the last words say the command: its options are those among the parts, and its positional words are
-- those among the parts and then the last words. Numbers are decimal digits, without a sign and without a leading zero.
abbrev pub Says : Command → List Part → List Word → Type 0
Says (Check tests budget json file) parts last =
    AreTests (value_of (codes "tests") parts) tests
    × IsBudget (value_of (codes "budget") parts) budget
    × (json ≡ has_flag (codes "json") parts)
    × (positional parts ++ last ≡ file ∷ [])
Says (Replay file) parts last = positional parts ++ last ≡ file ∷ []
Says (Table tests budget file) parts last =
    AreTests (value_of (codes "tests") parts) tests
    × IsBudget (value_of (codes "budget") parts) budget
    × (positional parts ++ last ≡ file ∷ [])
Says (Sample seed count) parts last =
    IsBetween 0 2147483647 seed × IsBetween 0 100000 count
    × (positional parts ++ last ≡ decimal seed ∷ decimal count ∷ [])
Says (Graph file) parts last = positional parts ++ last ≡ file ∷ []
Says (Census d k n) parts last =
    IsBetween 1 4 d × IsBetween 1 32 k × IsBetween 2 2000 n
    × (positional parts ++ last ≡ decimal d ∷ decimal k ∷ decimal n ∷ [])
Says (Classical file) parts last = positional parts ++ last ≡ file ∷ []

-- The words are those of the command: first its name, then its options, flags and positional words in any order. The
-- value of an option is the next word, where that doesn't begin with `-` or is `-` alone, or it follows `=` in the same
-- word. Each option and each flag stands at most once. After a word `--` all words are positional; before it no
-- positional word begins with `-` but `-` alone. The values and the positional words are those of the command.
abbrev pub AreWordsOf : Command → List Word → Type 0
AreWordsOf command words =
    (rest : List Word) × (parts : List Part) × (last : List Word)
    × (words ≡ name_of command ∷ rest) × IsLine (grammar_of command) parts last rest × Says command parts last

-- The words are those of some command.
abbrev pub IsCommand : List Word → Type 0
IsCommand words = (command : Command) × AreWordsOf command words

-- The same words are those of one command, with one list of tests, the same numbers and one file.
abbrev pub OneCommand : Type 0
OneCommand = (words : List Word) (command other : Command) → AreWordsOf command words → AreWordsOf other words → command ≡ other
