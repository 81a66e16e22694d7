use Rattle.std.proofs.Common.{◌≡◌, ℕ, List, [], ◌++◌, suc, refl, sym, ap, ◌∙◌, append_assoc, append-nil}
use Rattle.std.specs.Prelude.{codes}
use Rattle.drg_algebra.proofs.Beginnings.{begins, stops}
use Rattle.drg_matrices.specs.Tables.{diameter_of}
use Rattle.drg_report.specs.SpectralTexts.{row_word, values_text}
use Rattle.drg_report.proofs.tables.write_row_line.Goals as goal

pub returns-in_err-extend_from_slice-clause-err : goal.returns-in_err-extend_from_slice-clause-err
returns-in_err-extend_from_slice-clause-err g c =
    stops _ c.args.out.now.items [] _ (c.in_err-extend_from_slice.ensures.items ∙ sym (append-nil c.args.out.now.items)) refl

pub returns-in_err-write_values-clause-err : goal.returns-in_err-write_values-clause-err
returns-in_err-write_values-clause-err g c =
    let f = g.F.Field in
    let t = c.args.frame.now in
    let old = c.args.out.now.items in
    let word = row_word c.args.row in
    let values = values_text f.value f.operations t c.args.row (suc (diameter_of t)) in
    let bytes : c.as_bytes.result.now ≡ word = c.as_bytes.ensures.value ∙ c.word.ensures in
    let one = c.in_ok-extend_from_slice.ensures.items ∙ ap (λ (l : List ℕ). old ++ l) bytes in
    begins _ old word (codes "\n") c.in_err-write_values.ensures.err one (append_assoc word values (codes "\n"))
