use Rattle.std.proofs.Common.{ℕ, List, ◌++◌, ◌∙◌, ap}
use Rattle.drg_quadratic.specs.Quadratic.{root_of, value_of}
use Rattle.drg_quadratic.specs.Text.{value_text}
use Rattle.drg_json.proofs.Plain.{ascii-of, plain-value}
use Rattle.drg_json.proofs.tables.field_value.Goals as goal

pub text_of-requires : goal.text_of-requires
text_of-requires g c =
    let number = c.make.result in
    let text = value_text (root_of number) (value_of number) in
    ascii-of text (plain-value (root_of number) (value_of number)) (c.in_ok-write_text.ensures.ok ∙ ap (λ (l : List ℕ). l ++ text) c.new-text.ensures.items)
