use Rattle.std.proofs.Common.{ap, ◌∙◌, codes}
use Rattle.serde_json.specs.Data.{object, string}
use Rattle.serde_json.specs.View.{members_view}
use Rattle.serde_json.proofs.Views.{view-Object}
use Rattle.std.specs.Prelude.{option_map}
use Rattle.drg_json.specs.Putting.{put_if, put_spectra}
use Rattle.drg_json.specs.Reports.{array_data, names_data, orderings_data, sizes_data, vertices_data}
use Rattle.drg_json.specs.Tables.{spectra_data}
use Rattle.drg_json.proofs.Members.{survivor_members}
use Rattle.drg_json.proofs.Steps.{puts}
use Rattle.drg_json.proofs.report.survivor_value.Goals as goal

pub returns : goal.returns
returns c =
    let found = c.args.found.now in
    let tables = spectra_data found.spectra in
    let q = option_map orderings_data found.q_orderings in
    let none = ap members_view c.new-object.ensures.empty in
    let one = puts (codes "array") c.in_ok-put.ensures.ok c.in_ok-array_value.ensures none in
    let two = puts (codes "passed") c.in_ok-put-2.ensures.ok (c.in_ok-names.ensures ∙ ap names_data c.as_slice.ensures) one in
    let three = puts (codes "n") c.in_ok-put-3.ensures.ok c.in_ok-vertices.ensures two in
    let four = puts (codes "sizes") c.in_ok-put-4.ensures.ok c.in_ok-sizes.ensures three in
    let five = c.in_ok-put_spectra.ensures ∙ ap (put_spectra tables) four in
    let six = puts (codes "ppoly") c.in_ok-put-5.ensures.ok (c.in_ok-orderings_value.ensures ∙ ap orderings_data c.as_slice-2.ensures) five in
    let seven = c.in_ok-put_q.ensures ∙ ap (put_if (codes "qpoly") q) six in
    let eight = puts (codes "verdict") c.in_ok-put-6.ensures.ok c.in_ok-try_from_str.ensures seven in
    view-Object c.put-6.new.map ∙ ap object (eight ∙ survivor_members (array_data c.args.array.now) (names_data found.passed) (vertices_data found.numbers)
    (sizes_data found.numbers) (orderings_data found.p_orderings) (string (codes "survivor")) q tables)
