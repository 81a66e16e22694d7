use Rattle.std.proofs.Common.{[], ◌++◌, refl, sym, append-nil}
use Rattle.drg_algebra.proofs.Beginnings.{begins, begins_last}
use Rattle.drg_report.specs.KreinTexts.{krein_lines}
use Rattle.drg_report.specs.SpectralTexts.{frame_lines}
use Rattle.drg_report.proofs.Appends.{ends_ok}
use Rattle.drg_report.proofs.tables.write_table_lines.Goals as goal

pub returns-in_err-write_frame_lines-clause-err : goal.returns-in_err-write_frame_lines-clause-err
returns-in_err-write_frame_lines-clause-err g c =
    let f = g.F.Field in
    let tables = c.args.tables.now in
    let old = c.args.out.now.items in
    begins _ old [] (krein_lines f.value f.operations tables.krein) c.in_err-write_frame_lines.ensures.err (sym (append-nil old)) refl

pub returns-clause-ok : goal.returns-clause-ok
returns-clause-ok g c =
    let f = g.F.Field in
    let tables = c.args.tables.now in
    let old = c.args.out.now.items in
    ends_ok _ old (frame_lines f.value f.operations tables.frame) (krein_lines f.value f.operations tables.krein) _ c.write_krein_lines.ensures.ok c.in_ok-write_frame_lines.ensures.ok

pub returns-clause-err : goal.returns-clause-err
returns-clause-err g c =
    let f = g.F.Field in
    let tables = c.args.tables.now in
    let old = c.args.out.now.items in
    begins_last _ old (frame_lines f.value f.operations tables.frame) (krein_lines f.value f.operations tables.krein) _ c.write_krein_lines.ensures.err c.in_ok-write_frame_lines.ensures.ok refl
