use Rattle.std.proofs.Common.{◌≡◌, ◌++◌}
use Rattle.drg_report.specs.KreinTexts.{parameters_text}
use Rattle.drg_report.proofs.krein.write_parameters.Given as goal

abbrev pub invariant-thirds : goal.invariant-thirds
invariant-thirds g l = l.out.items ≡ l.initial.out.items ++ parameters_text g.F.Field.value g.F.Field.operations l.krein l.i l.j l.h
