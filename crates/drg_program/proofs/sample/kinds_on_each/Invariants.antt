use Rattle.std.proofs.Common.{take}
use Rattle.std.specs.List.{AllZip}
use Rattle.drg_program.specs.Sample.{IsKindOn}
use Rattle.drg_program.proofs.sample.kinds_on_each.Given as goal

abbrev pub invariant-arrays : goal.invariant-arrays
invariant-arrays l = AllZip IsKindOn (take l.array-index l.fn.arrays) l.kinds.items
