use Rattle.std.proofs.Common.{◌≡◌, ◌++◌, take}
use Rattle.drg_program.specs.GraphText.{numbers_text}
use Rattle.drg_program.proofs.graph_text.words_of.Given as goal

abbrev pub invariant-numbers : goal.invariant-numbers
invariant-numbers l = l.words.items ≡ l.word ++ numbers_text (take l.number-index l.numbers)
