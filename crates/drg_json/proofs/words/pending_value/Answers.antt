use Rattle.std.proofs.Common.{ℕ, List, ◌++◌, ◌∙◌, ap, codes}
use Rattle.drg_array.specs.Claims.{test_name}
use Rattle.drg_report.specs.Words.{cause_text, pending_text}
use Rattle.drg_json.proofs.Plain.{ascii-of, plain-pending}
use Rattle.drg_json.proofs.words.pending_value.Goals as goal

pub text_of-requires : goal.text_of-requires
text_of-requires c =
    let entry = c.args.entry.now in
    let one = c.in_ok-write_text.ensures.ok ∙ ap (λ (l : List ℕ). l ++ test_name entry.test) c.new-text.ensures.items in
    let two = c.in_ok-extend_from_slice.ensures.items ∙ ap (λ (l : List ℕ). l ++ codes " ") one in
    let three = c.in_ok-write_cause.ensures ∙ ap (λ (l : List ℕ). l ++ cause_text entry.cause) two in
    ascii-of (pending_text entry) (plain-pending entry) three
