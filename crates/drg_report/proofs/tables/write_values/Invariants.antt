use Rattle.std.proofs.Common.{◌≡◌, ◌++◌}
use Rattle.drg_report.specs.SpectralTexts.{values_text}
use Rattle.drg_report.proofs.tables.write_values.Given as goal

abbrev pub invariant-columns : goal.invariant-columns
invariant-columns g l = l.out.items ≡ l.initial.out.items ++ values_text g.F.Field.value g.F.Field.operations l.frame l.row l.column
