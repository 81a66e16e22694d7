use Rattle.std.proofs.Common.{◌≡◌, ℕ, List, ◌++◌, ◌+◌, ◌-◌, ◌<◌, ◌≤◌, suc, ap, ◌∙◌, subst, arith}
use Rattle.drg_algebra.specs.Beginnings.{BeginsWith}
use Rattle.drg_report.specs.KreinTexts.{krein_line, lines_of_index}
use Rattle.drg_report.proofs.Appends.{onward, piece-begins}
use Rattle.drg_report.proofs.KreinLines.{piece_of_pair}
use Rattle.drg_report.proofs.krein.write_lines_of_index.Goals as goal

pub returns-in_err-write_krein_line-clause-err : goal.returns-in_err-write_krein_line-clause-err
returns-in_err-write_krein_line-clause-err g c =
    let f = g.F.Field in
    let t = c.args.krein.now in
    let i = c.args.i in
    let j = c.seconds.j in
    let end = c.d-j-end.ensures.value in
    let inside : j - i < suc t.d - i = omega (arith, end, c.seconds.auto.j, c.seconds-test.true) in
    let part = subst (λ (l : List ℕ). BeginsWith l c.seconds.out.items c.write_krein_line.new.out.items) (piece_of_pair f.value f.operations t i j c.seconds.auto.j) c.in_err-write_krein_line.ensures.err in
    piece-begins _ (λ l. krein_line f.value f.operations t i (i + l)) (suc t.d - i) (j - i) c.args.out.now.items inside c.seconds.invariant part

pub seconds-preserved : goal.seconds-preserved
seconds-preserved g c =
    let f = g.F.Field in
    let t = c.args.krein.now in
    let i = c.args.i in
    let j = c.seconds.j in
    let old = c.args.out.now.items in
    let next : suc (j - i) ≡ j + 1 - i = omega (arith, c.seconds.auto.j) in
    let now = c.in_ok-write_krein_line.ensures.ok ∙ ap (λ (l : List ℕ). c.seconds.out.items ++ l) (piece_of_pair f.value f.operations t i j c.seconds.auto.j) in
    subst (λ (m : ℕ). c.write_krein_line.new.out.items ≡ old ++ lines_of_index f.value f.operations t i m) next
    (onward old (lines_of_index f.value f.operations t i (j - i)) (krein_line f.value f.operations t i (i + (j - i))) c.seconds.invariant now)

pub returns-clause-ok : goal.returns-clause-ok
returns-clause-ok g c =
    let f = g.F.Field in
    let t = c.args.krein.now in
    let i = c.args.i in
    let end = c.d-j-end.ensures.value in
    let all : c.seconds.j - i ≡ suc t.d - i = omega (arith, end, c.seconds.auto.j, c.requires, c.seconds-test.false) in
    subst (λ (m : ℕ). c.seconds.out.items ≡ c.args.out.now.items ++ lines_of_index f.value f.operations t i m) all c.seconds.invariant
