use Rattle.std.proofs.Common.{take}
use Rattle.std.specs.List.{AllZip}
use Rattle.std.specs.Prelude.{map}
use Rattle.drg_program.specs.Table.{AreWordsOn}
use Rattle.drg_program.proofs.table.words_on_each.Given as goal

abbrev pub invariant-arrays : goal.invariant-arrays
invariant-arrays l = AllZip (AreWordsOn l.fn.tests) (take l.array-index l.fn.arrays) (map (λ one. one.items) l.words.items)
