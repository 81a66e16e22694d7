use Rattle.std.proofs.Common.{◌≡◌, ◌++◌, take}
use Rattle.drg_report.specs.OrderingTexts.{ordering_lines}
use Rattle.drg_report.proofs.orderings.write_ordering_lines.Given as goal

abbrev pub invariant-orderings : goal.invariant-orderings
invariant-orderings l = l.out.items ≡ l.initial.out.items ++ ordering_lines l.word (take l.ordering-index l.orderings)
