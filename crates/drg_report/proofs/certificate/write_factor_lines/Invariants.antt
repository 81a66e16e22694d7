use Rattle.std.proofs.Common.{◌≡◌, ◌++◌, take}
use Rattle.drg_report.specs.Certificates.{factor_lines}
use Rattle.drg_report.proofs.certificate.write_factor_lines.Given as goal

abbrev pub invariant-factors : goal.invariant-factors
invariant-factors l = l.out.items ≡ l.initial.out.items ++ factor_lines (take l.factor-index l.factors)
