use Rattle.std.proofs.Common.{◌≡◌, ◌++◌}
use Rattle.drg_report.specs.SpectralTexts.{dual_lines}
use Rattle.drg_report.proofs.tables.write_dual_lines.Given as goal

abbrev pub invariant-rows : goal.invariant-rows
invariant-rows g l = l.out.items ≡ l.initial.out.items ++ dual_lines g.F.Field.value g.F.Field.operations l.frame l.r
