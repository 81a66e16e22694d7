use Rattle.std.proofs.Common.{suc, [], ◌++◌, sym, append_assoc, append-nil}
use Rattle.std.specs.Prelude.{codes}
use Rattle.drg_algebra.proofs.Beginnings.{begins}
use Rattle.drg_report.specs.KreinTexts.{krein_head, parameters_text}
use Rattle.drg_report.proofs.krein.write_krein_line.Goals as goal

pub returns-in_err-write_head-clause-err : goal.returns-in_err-write_head-clause-err
returns-in_err-write_head-clause-err g c =
    let f = g.F.Field in
    let t = c.args.krein.now in
    let old = c.args.out.now.items in
    let head = krein_head c.args.i c.args.j in
    let values = parameters_text f.value f.operations t c.args.i c.args.j (suc t.d) in
    begins _ old [] (values ++ codes "\n") c.in_err-write_head.ensures.err (sym (append-nil old)) (append_assoc head values (codes "\n"))

pub returns-in_err-write_parameters-clause-err : goal.returns-in_err-write_parameters-clause-err
returns-in_err-write_parameters-clause-err g c =
    let f = g.F.Field in
    let t = c.args.krein.now in
    let old = c.args.out.now.items in
    let head = krein_head c.args.i c.args.j in
    let values = parameters_text f.value f.operations t c.args.i c.args.j (suc t.d) in
    begins _ old head (codes "\n") c.in_err-write_parameters.ensures.err c.in_ok-write_head.ensures.ok (append_assoc head values (codes "\n"))
