use Rattle.std.proofs.Common.{◌≡◌, ◌++◌, take}
use Rattle.drg_report.specs.OrderingTexts.{indices_text}
use Rattle.drg_report.proofs.orderings.write_indices.Given as goal

abbrev pub invariant-indices : goal.invariant-indices
invariant-indices l = l.out.items ≡ l.initial.out.items ++ indices_text (take l.index-index l.indices)
