use Rattle.std.proofs.Common.{ℕ, List, [], ◌∷◌, ◌++◌, ap, ◌∙◌}
use Rattle.serde_json.specs.Written.{compact_text, has_float}
use Rattle.drg_json.proofs.Floats.{no_float}
use Rattle.drg_json.proofs.report.render_json.Goals as goal

pub returns : goal.returns
returns c =
    let same = c.in_ok-report.ensures in
    let text = c.in_ok-text.ensures.text (ap has_float same ∙ no_float c.args.array.now c.args.verdict.now) ∙ ap compact_text same in
    c.in_ok-push.ensures.items ∙ ap (λ (l : List ℕ). l ++ 10 ∷ []) text
