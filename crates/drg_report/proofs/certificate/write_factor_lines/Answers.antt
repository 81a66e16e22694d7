use Rattle.std.proofs.Common.{ℤ, List, subst}
use Rattle.std.specs.Prelude.{codes}
use Rattle.drg_algebra.specs.Beginnings.{BeginsWith}
use Rattle.drg_report.specs.Certificates.{poly_line}
use Rattle.drg_report.proofs.Appends.{item-begins}
use Rattle.drg_report.proofs.certificate.write_factor_lines.Goals as goal

pub returns-in_err-write_poly_line-clause-err : goal.returns-in_err-write_poly_line-clause-err
returns-in_err-write_poly_line-clause-err c =
    let factor = c.factor-item.result in
    let part = subst (λ (poly : List ℤ). BeginsWith (poly_line (codes "factor") poly) c.factors.out.items c.write_poly_line.new.out.items) c.factor-item.is c.in_err-write_poly_line.ensures.err in
    item-begins _ (poly_line (codes "factor")) c.args.factors.now c.factors.factor-index factor _ c.factors-test.true c.factors.invariant part
