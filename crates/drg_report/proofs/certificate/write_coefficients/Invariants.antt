use Rattle.std.proofs.Common.{◌≡◌, ◌++◌, take}
use Rattle.drg_report.specs.Certificates.{coefficients_text}
use Rattle.drg_report.proofs.certificate.write_coefficients.Given as goal

abbrev pub invariant-coefficients : goal.invariant-coefficients
invariant-coefficients l = l.out.items ≡ l.initial.out.items ++ coefficients_text (take l.coefficient-index l.coefficients)
