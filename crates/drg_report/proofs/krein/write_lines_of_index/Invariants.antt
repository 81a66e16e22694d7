use Rattle.std.proofs.Common.{◌≡◌, ◌++◌, ◌-◌}
use Rattle.drg_report.specs.KreinTexts.{lines_of_index}
use Rattle.drg_report.proofs.krein.write_lines_of_index.Given as goal

abbrev pub invariant-seconds : goal.invariant-seconds
invariant-seconds g l = l.out.items ≡ l.initial.out.items ++ lines_of_index g.F.Field.value g.F.Field.operations l.krein l.i (l.j - l.i)
