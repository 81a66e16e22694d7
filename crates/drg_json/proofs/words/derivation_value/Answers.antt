use Rattle.std.proofs.Common.{ℕ, List, ◌++◌, sym, ◌∙◌, ap, subst}
use Rattle.std.specs.Prelude.{IsAscii}
use Rattle.std.proofs.lemmas.Result.{IfOk-weaker}
use Rattle.drg_derivation.specs.Text.{derivation_text}
use Rattle.drg_json.specs.Lines.{AreLinesOf}
use Rattle.drg_json.specs.Reports.{derivation_lines}
use Rattle.drg_json.proofs.Lines.{derivation_are, derivation_ascii}
use Rattle.drg_json.proofs.words.derivation_value.Goals as goal

pub lines-requires : goal.lines-requires
lines-requires c =
    let δ = c.args.derivation.now in
    let text = c.deref.ensures.value ∙ (c.in_ok-write_text.ensures.ok ∙ ap (λ (l : List ℕ). l ++ derivation_text δ) c.new-text.ensures.items) in
    subst IsAscii (sym text) (derivation_ascii δ)

pub returns : goal.returns
returns c =
    let δ = c.args.derivation.now in
    let text = c.deref.ensures.value ∙ (c.in_ok-write_text.ensures.ok ∙ ap (λ (l : List ℕ). l ++ derivation_text δ) c.new-text.ensures.items) in
    let are = subst (λ (l : List ℕ). AreLinesOf l (derivation_lines δ)) (sym text) (derivation_are δ) in
    IfOk-weaker c.lines.result _ _ (λ v h. h (derivation_lines δ) are) c.lines.ensures
