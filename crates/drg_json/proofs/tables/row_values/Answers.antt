use Rattle.std.proofs.Common.{◌≡◌, ℕ, suc, ◌∙◌, ap, ap₂, arith}
use Rattle.serde_json.specs.Data.{Data}
use Rattle.drg_matrices.specs.Tables.{diameter_of, root_of_tables}
use Rattle.drg_json.specs.Tables.{row_items, row_value, value_data}
use Rattle.drg_json.proofs.Steps.{listed, next_item, pushed}
use Rattle.drg_json.proofs.tables.row_values.Goals as goal

pub columns-preserved : goal.columns-preserved
columns-preserved g c =
    let f = g.F.Field in
    let t = c.args.frame.now in
    let row = c.args.row in
    let j = c.columns.column in
    let text : ℕ → f.V → Data = λ root x. value_data f.value f.operations root x in
    let item : ℕ → Data = λ i. text (root_of_tables t) (row_value f.value f.operations t row i) in
    let same = ap₂ text c.value.ensures.root c.value.ensures.value in
    pushed c.columns.list.items (row_items f.value f.operations t row j) c.in_ok-field_value.field-0 (item j) c.columns.invariant c.in_ok-push.ensures.items
    (c.in_ok-field_value.ensures ∙ same) ∙ next_item item j

pub returns : goal.returns
returns g c =
    let f = g.F.Field in
    let t = c.args.frame.now in
    let end = c.d-column-end.ensures.value in
    let all : c.columns.column ≡ suc (diameter_of t) = omega (arith, end) in
    listed c.columns.list (row_items f.value f.operations t c.args.row (suc (diameter_of t)))
    (c.columns.invariant ∙ ap (λ (m : ℕ). row_items f.value f.operations t c.args.row m) all)
