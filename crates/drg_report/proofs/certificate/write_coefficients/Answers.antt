use Rattle.std.proofs.Common.{◌≡◌, ℤ, pos, get_or, subst, to_z, of_z, rules}
use Rattle.std.specs.Fmt.{signed_decimal}
use Rattle.std.specs.Int.{w128}
use Rattle.std.proofs.lemmas.Int.{to_z-of_z}
use Rattle.drg_algebra.specs.Beginnings.{BeginsWith}
use Rattle.drg_report.specs.Pieces.{spaced}
use Rattle.drg_report.proofs.Appends.{item-begins}
use Rattle.drg_report.proofs.certificate.write_coefficients.Goals as goal

pub returns-in_err-write_coefficient-clause-err : goal.returns-in_err-write_coefficient-clause-err
returns-in_err-write_coefficient-clause-err c =
    let zs = c.args.coefficients.now in
    let i = c.coefficients.coefficient-index in
    let value : to_z w128 (of_z w128 (get_or zs i (pos 0))) ≡ get_or zs i (pos 0) = to_z-of_z w128 _ (search rules) in
    let part = subst (λ (z : ℤ). BeginsWith (spaced (signed_decimal z)) c.coefficients.out.items c.write_coefficient.new.out.items) value c.in_err-write_coefficient.ensures.err in
    item-begins _ (λ (z : ℤ). spaced (signed_decimal z)) zs i (pos 0) _ c.coefficients-test.true c.coefficients.invariant part
