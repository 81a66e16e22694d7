use Rattle.std.proofs.Common.{◌≡◌, ◌++◌, ◌-◌}
use Rattle.drg_report.specs.KreinTexts.{lines_of_indices}
use Rattle.drg_report.proofs.krein.write_parameter_lines.Given as goal

abbrev pub invariant-firsts : goal.invariant-firsts
invariant-firsts g l = l.out.items ≡ l.initial.out.items ++ lines_of_indices g.F.Field.value g.F.Field.operations l.krein (l.i - 1)
