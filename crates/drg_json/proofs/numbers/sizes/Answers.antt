use Rattle.std.proofs.Common.{◌≡◌, ℕ, suc, ◌∙◌, ap, arith}
use Rattle.drg_json.specs.Reports.{size_items}
use Rattle.drg_json.proofs.Steps.{listed}
use Rattle.drg_json.proofs.numbers.sizes.Goals as goal

pub returns : goal.returns
returns c =
    let numbers = c.args.numbers.now in
    let end = c.d-i-end.ensures.value in
    let all : c.sizes.i ≡ suc numbers.d = omega arith in
    listed c.sizes.list (size_items numbers (suc numbers.d)) (c.sizes.invariant ∙ ap (λ (m : ℕ). size_items numbers m) all)
