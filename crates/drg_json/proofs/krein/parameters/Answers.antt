use Rattle.std.proofs.Common.{◌≡◌, ℕ, suc, ◌∙◌, ap, ap₂, arith}
use Rattle.serde_json.specs.Data.{Data}
use Rattle.drg_krein.specs.Tables.{krein_in}
use Rattle.drg_json.specs.Tables.{parameter_items, value_data}
use Rattle.drg_json.proofs.Steps.{listed, next_item, pushed}
use Rattle.drg_json.proofs.krein.parameters.Goals as goal

pub thirds-preserved : goal.thirds-preserved
thirds-preserved g c =
    let f = g.F.Field in
    let t = c.args.krein.now in
    let i = c.args.i in
    let j = c.args.j in
    let text : ℕ → f.V → Data = λ root x. value_data f.value f.operations root x in
    let item : ℕ → Data = λ h. text t.root (krein_in f.value f.operations t h i j) in
    let same = ap₂ text c.q.ensures.root c.q.ensures.value in
    pushed c.thirds.list.items (parameter_items f.value f.operations t i j c.thirds.h) c.in_ok-field_value.field-0 (item c.thirds.h) c.thirds.invariant c.in_ok-push.ensures.items
    (c.in_ok-field_value.ensures ∙ same) ∙ next_item item c.thirds.h

pub returns : goal.returns
returns g c =
    let f = g.F.Field in
    let t = c.args.krein.now in
    let end = c.d-h-end.ensures.value in
    let all : c.thirds.h ≡ suc t.d = omega (arith, end) in
    listed c.thirds.list (parameter_items f.value f.operations t c.args.i c.args.j (suc t.d))
    (c.thirds.invariant ∙ ap (λ (m : ℕ). parameter_items f.value f.operations t c.args.i c.args.j m) all)
