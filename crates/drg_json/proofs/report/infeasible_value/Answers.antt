use Rattle.std.proofs.Common.{ap, ◌∙◌, codes}
use Rattle.serde_json.specs.Data.{object, string}
use Rattle.serde_json.specs.View.{members_view}
use Rattle.serde_json.proofs.Views.{view-Object}
use Rattle.drg_array.specs.Claims.{claim_text, class_name}
use Rattle.drg_json.specs.Pieces.{texts}
use Rattle.drg_json.specs.Putting.{put_other}
use Rattle.drg_json.specs.Reports.{array_data, derivation_lines, pending_data}
use Rattle.drg_json.proofs.Members.{infeasible_members}
use Rattle.drg_json.proofs.Steps.{puts}
use Rattle.drg_json.proofs.report.infeasible_value.Goals as goal

pub returns : goal.returns
returns c =
    let found = c.args.found.now in
    let none = ap members_view c.new-object.ensures.empty in
    let one = puts (codes "array") c.in_ok-put.ensures.ok c.in_ok-array_value.ensures none in
    let two = puts (codes "claim") c.in_ok-put-2.ensures.ok c.in_ok-claim_value.ensures one in
    let three = puts (codes "class") c.in_ok-put-3.ensures.ok (c.in_ok-try_from_str.ensures ∙ ap string c.name.ensures) two in
    let four = puts (codes "derivation") c.in_ok-put-4.ensures.ok c.in_ok-derivation_value.ensures three in
    let five = c.in_ok-put_other.ensures ∙ ap (put_other found.other) four in
    let six = puts (codes "pending") c.in_ok-put-5.ensures.ok (c.in_ok-pending_tests.ensures ∙ ap pending_data c.as_slice.ensures) five in
    let seven = puts (codes "verdict") c.in_ok-put-6.ensures.ok c.in_ok-try_from_str-2.ensures six in
    view-Object c.put-6.new.map ∙ ap object (seven ∙ infeasible_members (array_data c.args.array.now) (string (claim_text found.claim)) (string (class_name found.class))
    (texts (derivation_lines found.derivation)) (pending_data found.pending) (string (codes "infeasible")) found.other)
