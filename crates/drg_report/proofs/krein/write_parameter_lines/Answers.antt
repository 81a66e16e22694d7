use Rattle.std.proofs.Common.{◌≡◌, ℕ, List, ◌++◌, ◌+◌, ◌-◌, ◌<◌, ◌≤◌, suc, ap, ◌∙◌, subst, arith}
use Rattle.drg_algebra.specs.Beginnings.{BeginsWith}
use Rattle.drg_report.specs.KreinTexts.{lines_of_index, lines_of_indices}
use Rattle.drg_report.proofs.Appends.{onward, piece-begins}
use Rattle.drg_report.proofs.KreinLines.{piece_of_index}
use Rattle.drg_report.proofs.krein.write_parameter_lines.Goals as goal

pub returns-in_err-write_lines_of_index-clause-err : goal.returns-in_err-write_lines_of_index-clause-err
returns-in_err-write_lines_of_index-clause-err g c =
    let f = g.F.Field in
    let t = c.args.krein.now in
    let i = c.firsts.i in
    let end = c.d-i-end.ensures.value in
    let inside : i - 1 < t.d = omega (arith, end, c.firsts.auto.i, c.firsts-test.true) in
    let part = subst (λ (l : List ℕ). BeginsWith l c.firsts.out.items c.write_lines_of_index.new.out.items) (piece_of_index f.value f.operations t i c.firsts.auto.i) c.in_err-write_lines_of_index.ensures.err in
    piece-begins _ (λ l. lines_of_index f.value f.operations t (suc l) (t.d - l)) t.d (i - 1) c.args.out.now.items inside c.firsts.invariant part

pub firsts-preserved : goal.firsts-preserved
firsts-preserved g c =
    let f = g.F.Field in
    let t = c.args.krein.now in
    let i = c.firsts.i in
    let old = c.args.out.now.items in
    let next : suc (i - 1) ≡ i + 1 - 1 = omega (arith, c.firsts.auto.i) in
    let now = c.in_ok-write_lines_of_index.ensures.ok ∙ ap (λ (l : List ℕ). c.firsts.out.items ++ l) (piece_of_index f.value f.operations t i c.firsts.auto.i) in
    subst (λ (m : ℕ). c.write_lines_of_index.new.out.items ≡ old ++ lines_of_indices f.value f.operations t m) next
    (onward old (lines_of_indices f.value f.operations t (i - 1)) (lines_of_index f.value f.operations t (suc (i - 1)) (t.d - (i - 1))) c.firsts.invariant now)

pub returns-clause-ok : goal.returns-clause-ok
returns-clause-ok g c =
    let f = g.F.Field in
    let t = c.args.krein.now in
    let end = c.d-i-end.ensures.value in
    let all : c.firsts.i - 1 ≡ t.d = omega (arith, end, c.firsts.auto.i, c.firsts-test.false) in
    subst (λ (m : ℕ). c.firsts.out.items ≡ c.args.out.now.items ++ lines_of_indices f.value f.operations t m) all c.firsts.invariant
