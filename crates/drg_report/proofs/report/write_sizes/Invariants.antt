use Rattle.std.proofs.Common.{◌≡◌, ◌++◌}
use Rattle.drg_report.specs.Texts.{sizes_text}
use Rattle.drg_report.proofs.report.write_sizes.Given as goal

abbrev pub invariant-sizes : goal.invariant-sizes
invariant-sizes l = l.out.items ≡ l.initial.out.items ++ sizes_text l.numbers l.i
