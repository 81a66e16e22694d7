use Rattle.std.proofs.Common.{◌≡◌, ℕ, ◌++◌, ◌+◌, ◌<◌, suc, subst, arith}
use Rattle.drg_matrices.specs.Tables.{diameter_of}
use Rattle.drg_report.specs.SpectralTexts.{dual_lines, row_line}
use Rattle.drg_report.specs.declared.tables.Row.TheVariants.{Dual}
use Rattle.drg_report.proofs.Appends.{onward, piece-begins}
use Rattle.drg_report.proofs.tables.write_dual_lines.Goals as goal

pub returns-in_err-write_row_line-clause-err : goal.returns-in_err-write_row_line-clause-err
returns-in_err-write_row_line-clause-err g c =
    let f = g.F.Field in
    let t = c.args.frame.now in
    let end = c.d-r-end.ensures.value in
    let inside : c.rows.r < suc (diameter_of t) = omega (arith, end, c.rows-test.true) in
    piece-begins _ (λ r. row_line f.value f.operations t (Dual r)) (suc (diameter_of t)) c.rows.r c.args.out.now.items inside c.rows.invariant c.in_err-write_row_line.ensures.err

pub rows-preserved : goal.rows-preserved
rows-preserved g c =
    let f = g.F.Field in
    let t = c.args.frame.now in
    let old = c.args.out.now.items in
    let next : suc c.rows.r ≡ c.rows.r + 1 = omega arith in
    subst (λ (m : ℕ). c.write_row_line.new.out.items ≡ old ++ dual_lines f.value f.operations t m) next
    (onward old (dual_lines f.value f.operations t c.rows.r) (row_line f.value f.operations t (Dual c.rows.r)) c.rows.invariant c.in_ok-write_row_line.ensures.ok)

pub returns-clause-ok : goal.returns-clause-ok
returns-clause-ok g c =
    let f = g.F.Field in
    let t = c.args.frame.now in
    let end = c.d-r-end.ensures.value in
    let all : c.rows.r ≡ suc (diameter_of t) = omega arith in
    subst (λ (m : ℕ). c.rows.out.items ≡ c.args.out.now.items ++ dual_lines f.value f.operations t m) all c.rows.invariant
