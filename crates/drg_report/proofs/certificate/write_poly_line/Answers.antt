use Rattle.std.proofs.Common.{ap, sym, ◌∙◌, append_assoc}
use Rattle.std.specs.Prelude.{codes}
use Rattle.drg_algebra.proofs.Beginnings.{begins}
use Rattle.drg_report.specs.Certificates.{coefficients_text, poly_line}
use Rattle.drg_report.proofs.certificate.write_poly_line.Goals as goal

pub returns-in_err-write_coefficients-clause-err : goal.returns-in_err-write_coefficients-clause-err
returns-in_err-write_coefficients-clause-err c =
    let word = c.args.word.now in
    let whole = ap (poly_line word) (sym c.coefficients.ensures.items) ∙ append_assoc word (coefficients_text c.coefficients.result.now) (codes "\n") in
    begins _ c.args.out.now.items word (codes "\n") c.in_err-write_coefficients.ensures.err c.in_ok-extend_from_slice.ensures.items whole
