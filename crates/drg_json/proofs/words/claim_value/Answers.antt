use Rattle.std.proofs.Common.{ℕ, List, ◌++◌, ◌∙◌, ap}
use Rattle.drg_array.specs.Claims.{claim_text}
use Rattle.drg_json.proofs.Plain.{ascii-of, plain-claim}
use Rattle.drg_json.proofs.words.claim_value.Goals as goal

pub text_of-requires : goal.text_of-requires
text_of-requires c =
    let text = claim_text c.args.claim in
    ascii-of text (plain-claim c.args.claim) (c.in_ok-write_text.ensures.ok ∙ ap (λ (l : List ℕ). l ++ text) c.new-text.ensures.items)
