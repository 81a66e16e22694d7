use Rattle.std.proofs.Common.{◌≡◌, ℕ, suc, ◌∙◌, ap, arith}
use Rattle.serde_json.specs.Data.{Data}
use Rattle.drg_matrices.specs.Tables.{diameter_of}
use Rattle.drg_json.specs.Pieces.{first_items}
use Rattle.drg_json.specs.Tables.{row_data}
use Rattle.drg_json.specs.declared.tables.Row.TheVariants.{Dual}
use Rattle.drg_json.proofs.Steps.{listed}
use Rattle.drg_json.proofs.tables.dual_rows.Goals as goal

pub returns : goal.returns
returns g c =
    let f = g.F.Field in
    let t = c.args.frame.now in
    let end = c.d-r-end.ensures.value in
    let all : c.rows.r ≡ suc (diameter_of t) = omega (arith, end) in
    let item : ℕ → Data = λ r. row_data f.value f.operations t (Dual r) in
    listed c.rows.list (first_items item (suc (diameter_of t))) (c.rows.invariant ∙ ap (λ (m : ℕ). first_items item m) all)
