use Rattle.std.proofs.Common.{Some, ap, ◌∙◌, codes}
use Rattle.serde_json.specs.Data.{object, string}
use Rattle.serde_json.specs.View.{members_view}
use Rattle.serde_json.proofs.Views.{view-Object}
use Rattle.drg_json.specs.Putting.{put_other}
use Rattle.drg_json.specs.Reports.{array_data, names_data, pending_data}
use Rattle.drg_json.proofs.Members.{open_members}
use Rattle.drg_json.proofs.Steps.{puts}
use Rattle.drg_json.proofs.report.refused_value.Goals as goal

pub returns : goal.returns
returns c =
    let found = c.args.found.now in
    let none = ap members_view c.new-object.ensures.empty in
    let one = puts (codes "array") c.in_ok-put.ensures.ok c.in_ok-array_value.ensures none in
    let two = puts (codes "passed") c.in_ok-put-2.ensures.ok (c.in_ok-names.ensures ∙ ap names_data c.as_slice.ensures) one in
    let three = puts (codes "pending") c.in_ok-put-3.ensures.ok (c.in_ok-pending_tests.ensures ∙ ap pending_data c.as_slice-2.ensures) two in
    let four = c.in_ok-put_certificate.ensures ∙ ap (put_other (Some found.other)) three in
    let five = puts (codes "verdict") c.in_ok-put-4.ensures.ok c.in_ok-try_from_str.ensures four in
    view-Object c.put-4.new.map ∙ ap object (five ∙ open_members (array_data c.args.array.now) (names_data found.passed) (pending_data found.pending)
    (string (codes "refused-spectrum")) (Some found.other))
