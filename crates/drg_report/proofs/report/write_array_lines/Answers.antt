use Rattle.std.proofs.Common.{◌++◌, append_assoc}
use Rattle.std.specs.Prelude.{codes}
use Rattle.drg_algebra.proofs.Beginnings.{begins}
use Rattle.drg_array.specs.Text.{array_text}
use Rattle.drg_report.specs.Texts.{names_text}
use Rattle.drg_report.proofs.Appends.{onward, from_second}
use Rattle.drg_report.proofs.report.write_array_lines.Goals as goal

pub returns-in_err-write_text-clause-err : goal.returns-in_err-write_text-clause-err
returns-in_err-write_text-clause-err c =
    let a = array_text c.args.array.now in
    let names = names_text c.args.passed.now in
    begins _ c.args.out.now.items (codes "array ") ((codes "\npassed" ++ names) ++ codes "\n") c.in_err-write_text.ensures.err c.in_ok-extend_from_slice.ensures.items
    (from_second (codes "array ") a (codes "\npassed") names (codes "\n"))

pub returns-in_err-write_names-clause-err : goal.returns-in_err-write_names-clause-err
returns-in_err-write_names-clause-err c =
    let old = c.args.out.now.items in
    let a = array_text c.args.array.now in
    let names = names_text c.args.passed.now in
    let two = onward old (codes "array ") a c.in_ok-extend_from_slice.ensures.items c.in_ok-write_text.ensures.ok in
    let three = onward old (codes "array " ++ a) (codes "\npassed") two c.in_ok-extend_from_slice-2.ensures.items in
    begins _ old ((codes "array " ++ a) ++ codes "\npassed") (codes "\n") c.in_err-write_names.ensures.err three
    (append_assoc ((codes "array " ++ a) ++ codes "\npassed") names (codes "\n"))
