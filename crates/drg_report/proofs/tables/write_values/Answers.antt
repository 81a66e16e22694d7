use Rattle.std.proofs.Common.{◌≡◌, ℕ, List, ◌++◌, ◌+◌, ◌<◌, suc, ap, ap₂, ◌∙◌, subst, arith}
use Rattle.drg_algebra.specs.Beginnings.{BeginsWith}
use Rattle.drg_matrices.specs.Tables.{diameter_of, root_of_tables}
use Rattle.drg_report.specs.Pieces.{spaced}
use Rattle.drg_report.specs.Words.{field_text}
use Rattle.drg_report.specs.SpectralTexts.{row_value, values_text}
use Rattle.drg_report.proofs.Appends.{onward, piece-begins}
use Rattle.drg_report.proofs.tables.write_values.Goals as goal

pub returns-in_err-write_spaced_value-clause-err : goal.returns-in_err-write_spaced_value-clause-err
returns-in_err-write_spaced_value-clause-err g c =
    let f = g.F.Field in
    let t = c.args.frame.now in
    let row = c.args.row in
    let j = c.columns.column in
    let end = c.d-column-end.ensures.value in
    let inside : j < suc (diameter_of t) = omega (arith, end, c.columns-test.true) in
    let text : ℕ → f.V → List ℕ = λ root x. spaced (field_text (f.operations root) root x) in
    let same = ap₂ text c.value.ensures.root c.value.ensures.value in
    let part = subst (λ (l : List ℕ). BeginsWith l c.columns.out.items c.write_spaced_value.new.out.items) same c.in_err-write_spaced_value.ensures.err in
    piece-begins _ (λ i. text (root_of_tables t) (row_value f.value f.operations t row i)) (suc (diameter_of t)) j c.args.out.now.items inside c.columns.invariant part

pub columns-preserved : goal.columns-preserved
columns-preserved g c =
    let f = g.F.Field in
    let t = c.args.frame.now in
    let row = c.args.row in
    let j = c.columns.column in
    let old = c.args.out.now.items in
    let out = c.columns.out.items in
    let text : ℕ → f.V → List ℕ = λ root x. spaced (field_text (f.operations root) root x) in
    let same = ap₂ text c.value.ensures.root c.value.ensures.value in
    let now = c.in_ok-write_spaced_value.ensures.ok ∙ ap (λ (l : List ℕ). out ++ l) same in
    let next : suc j ≡ j + 1 = omega arith in
    subst (λ (m : ℕ). c.write_spaced_value.new.out.items ≡ old ++ values_text f.value f.operations t row m) next
    (onward old (values_text f.value f.operations t row j) (text (root_of_tables t) (row_value f.value f.operations t row j)) c.columns.invariant now)

pub returns-clause-ok : goal.returns-clause-ok
returns-clause-ok g c =
    let f = g.F.Field in
    let t = c.args.frame.now in
    let end = c.d-column-end.ensures.value in
    let all : c.columns.column ≡ suc (diameter_of t) = omega arith in
    subst (λ (m : ℕ). c.columns.out.items ≡ c.args.out.now.items ++ values_text f.value f.operations t c.args.row m) all c.columns.invariant
