use Rattle.std.proofs.Common.{◌≡◌, ◌++◌}
use Rattle.drg_report.specs.SpectralTexts.{eigen_lines}
use Rattle.drg_report.proofs.tables.write_eigen_lines.Given as goal

abbrev pub invariant-rows : goal.invariant-rows
invariant-rows g l = l.out.items ≡ l.initial.out.items ++ eigen_lines g.F.Field.value g.F.Field.operations l.frame l.i
