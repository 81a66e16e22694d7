use Rattle.std.proofs.Common.{◌++◌, refl}
use Rattle.std.specs.Prelude.{codes}
use Rattle.drg_algebra.proofs.Beginnings.{begins_last}
use Rattle.drg_array.specs.Claims.{test_name}
use Rattle.drg_report.specs.Words.{cause_text}
use Rattle.drg_report.proofs.Appends.{onward}
use Rattle.drg_report.proofs.words.write_pending_text.Goals as goal

pub returns-clause-err : goal.returns-clause-err
returns-clause-err c =
    let old = c.args.out.now.items in
    let name = test_name c.args.entry.now.test in
    let two = onward old name (codes " ") c.in_ok-write_text.ensures.ok c.in_ok-extend_from_slice.ensures.items in
    begins_last _ old (name ++ codes " ") (cause_text c.args.entry.now.cause) _ c.write_cause.ensures.err two refl
