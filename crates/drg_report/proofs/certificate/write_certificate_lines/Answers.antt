use Rattle.std.proofs.Common.{ℤ, List, [], ◌++◌, refl, sym, ap, ◌∙◌, subst, append_assoc, append-nil}
use Rattle.std.specs.Prelude.{OnErr, codes}
use Rattle.drg_algebra.specs.Beginnings.{BeginsWith}
use Rattle.drg_algebra.proofs.Beginnings.{begins, begins_last}
use Rattle.drg_eigen.specs.declared.split.OtherSpectrum.{OtherSpectrum}
use Rattle.drg_report.specs.Certificates.{certificate_lines, factor_lines, poly_line}
use Rattle.drg_report.proofs.Appends.{onward}
use Rattle.drg_report.proofs.certificate.write_certificate_lines.Goals as goal

pub returns-in_err-write_factor_lines-in-Rest-clause-err : goal.returns-in_err-write_factor_lines-in-Rest-clause-err
returns-in_err-write_factor_lines-in-Rest-clause-err c =
    let old = c.args.out.now.items in
    let new = c.write_factor_lines.new.out.items in
    let part = subst (λ (fs : List (List ℤ)). BeginsWith (factor_lines fs) old new) c.as_slice.ensures c.in_err-write_factor_lines-in-Rest.ensures.err in
    subst (λ (other : OtherSpectrum). OnErr c.from_residual.result (BeginsWith (certificate_lines other) old new)) (sym c.in-Rest.is)
    (begins _ old [] (poly_line (codes "rest") c.in-Rest.rest) part (sym (append-nil old)) refl)

pub returns-in_ok-write_factor_lines-in-Rest-clause-err : goal.returns-in_ok-write_factor_lines-in-Rest-clause-err
returns-in_ok-write_factor_lines-in-Rest-clause-err c =
    let old = c.args.out.now.items in
    let new = c.write_poly_line.new.out.items in
    let one = c.in_ok-write_factor_lines-in-Rest.ensures.ok ∙ ap (λ (fs : List (List ℤ)). old ++ factor_lines fs) c.as_slice.ensures in
    subst (λ (other : OtherSpectrum). OnErr c.write_poly_line.result (BeginsWith (certificate_lines other) old new)) (sym c.in-Rest.is)
    (begins_last _ old (factor_lines c.in-Rest.factors) (poly_line (codes "rest") c.in-Rest.rest) _ c.write_poly_line.ensures.err one refl)

pub returns-in_err-write_factor_lines-in-TwoFields-clause-err : goal.returns-in_err-write_factor_lines-in-TwoFields-clause-err
returns-in_err-write_factor_lines-in-TwoFields-clause-err c =
    let old = c.args.out.now.items in
    let new = c.write_factor_lines-in-TwoFields.new.out.items in
    let first = poly_line (codes "first") c.in-TwoFields.first in
    let second = poly_line (codes "second") c.in-TwoFields.second in
    let part = subst (λ (fs : List (List ℤ)). BeginsWith (factor_lines fs) old new) c.as_slice-in-TwoFields.ensures c.in_err-write_factor_lines-in-TwoFields.ensures.err in
    subst (λ (other : OtherSpectrum). OnErr c.from_residual-in_err-write_factor_lines-in-TwoFields.result (BeginsWith (certificate_lines other) old new)) (sym c.in-TwoFields.is)
    (begins _ old [] (first ++ second) part (sym (append-nil old)) (append_assoc (factor_lines c.in-TwoFields.factors) first second))

pub returns-in_err-write_poly_line-in-TwoFields-clause-err : goal.returns-in_err-write_poly_line-in-TwoFields-clause-err
returns-in_err-write_poly_line-in-TwoFields-clause-err c =
    let old = c.args.out.now.items in
    let new = c.write_poly_line-in-TwoFields.new.out.items in
    let first = poly_line (codes "first") c.in-TwoFields.first in
    let second = poly_line (codes "second") c.in-TwoFields.second in
    let factors = factor_lines c.in-TwoFields.factors in
    let one = c.in_ok-write_factor_lines-in-TwoFields.ensures.ok ∙ ap (λ (fs : List (List ℤ)). old ++ factor_lines fs) c.as_slice-in-TwoFields.ensures in
    subst (λ (other : OtherSpectrum). OnErr c.from_residual-in_err-write_poly_line-in-TwoFields.result (BeginsWith (certificate_lines other) old new)) (sym c.in-TwoFields.is)
    (begins _ old factors second {piece = first} c.in_err-write_poly_line-in-TwoFields.ensures.err one (append_assoc factors first second))

pub returns-in_ok-write_poly_line-in-TwoFields-clause-err : goal.returns-in_ok-write_poly_line-in-TwoFields-clause-err
returns-in_ok-write_poly_line-in-TwoFields-clause-err c =
    let old = c.args.out.now.items in
    let new = c.write_poly_line-in-TwoFields-2.new.out.items in
    let first = poly_line (codes "first") c.in-TwoFields.first in
    let second = poly_line (codes "second") c.in-TwoFields.second in
    let factors = factor_lines c.in-TwoFields.factors in
    let one = c.in_ok-write_factor_lines-in-TwoFields.ensures.ok ∙ ap (λ (fs : List (List ℤ)). old ++ factor_lines fs) c.as_slice-in-TwoFields.ensures in
    let two = onward old factors first one c.in_ok-write_poly_line-in-TwoFields.ensures.ok in
    subst (λ (other : OtherSpectrum). OnErr c.write_poly_line-in-TwoFields-2.result (BeginsWith (certificate_lines other) old new)) (sym c.in-TwoFields.is)
    (begins_last _ old (factors ++ first) second _ c.write_poly_line-in-TwoFields-2.ensures.err two refl)
