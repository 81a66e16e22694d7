use Rattle.std.proofs.Common.{ℕ, [], ◌++◌, suc, refl, sym, ap, ◌∙◌, subst, append_assoc, append-nil}
use Rattle.drg_algebra.specs.Beginnings.{BeginsWith}
use Rattle.drg_algebra.proofs.Beginnings.{begins, begins_last}
use Rattle.drg_matrices.specs.Tables.{diameter_of, root_of_tables}
use Rattle.drg_report.specs.SpectralTexts.{dual_lines, eigen_lines, root_line, row_line}
use Rattle.drg_report.specs.declared.tables.Row.TheVariants.{Thetas}
use Rattle.drg_report.proofs.Appends.{ends_ok, first_of_four, onward, second_of_four}
use Rattle.drg_report.proofs.tables.write_frame_lines.Goals as goal

pub returns-in_err-write_root_line-clause-err : goal.returns-in_err-write_root_line-clause-err
returns-in_err-write_root_line-clause-err g c =
    let f = g.F.Field in
    let t = c.args.frame.now in
    let old = c.args.out.now.items in
    let head = root_line (root_of_tables t) in
    let thetas = row_line f.value f.operations t Thetas in
    let eigens = eigen_lines f.value f.operations t (suc (diameter_of t)) in
    let duals = dual_lines f.value f.operations t (suc (diameter_of t)) in
    let part = subst (λ (r : ℕ). BeginsWith (root_line r) old c.write_root_line.new.out.items) c.root.ensures c.in_err-write_root_line.ensures.err in
    begins _ old [] ((thetas ++ eigens) ++ duals) part (sym (append-nil old)) (first_of_four head thetas eigens duals)

pub returns-in_err-write_row_line-clause-err : goal.returns-in_err-write_row_line-clause-err
returns-in_err-write_row_line-clause-err g c =
    let f = g.F.Field in
    let t = c.args.frame.now in
    let old = c.args.out.now.items in
    let head = root_line (root_of_tables t) in
    let thetas = row_line f.value f.operations t Thetas in
    let eigens = eigen_lines f.value f.operations t (suc (diameter_of t)) in
    let duals = dual_lines f.value f.operations t (suc (diameter_of t)) in
    let one = c.in_ok-write_root_line.ensures.ok ∙ ap (λ (r : ℕ). old ++ root_line r) c.root.ensures in
    begins _ old head (eigens ++ duals) c.in_err-write_row_line.ensures.err one (second_of_four head thetas eigens duals)

pub returns-in_err-write_eigen_lines-clause-err : goal.returns-in_err-write_eigen_lines-clause-err
returns-in_err-write_eigen_lines-clause-err g c =
    let f = g.F.Field in
    let t = c.args.frame.now in
    let old = c.args.out.now.items in
    let head = root_line (root_of_tables t) in
    let thetas = row_line f.value f.operations t Thetas in
    let eigens = eigen_lines f.value f.operations t (suc (diameter_of t)) in
    let duals = dual_lines f.value f.operations t (suc (diameter_of t)) in
    let one = c.in_ok-write_root_line.ensures.ok ∙ ap (λ (r : ℕ). old ++ root_line r) c.root.ensures in
    let two = onward old head thetas one c.in_ok-write_row_line.ensures.ok in
    begins _ old (head ++ thetas) duals c.in_err-write_eigen_lines.ensures.err two (append_assoc (head ++ thetas) eigens duals)

pub returns-clause-ok : goal.returns-clause-ok
returns-clause-ok g c =
    let f = g.F.Field in
    let t = c.args.frame.now in
    let old = c.args.out.now.items in
    let head = root_line (root_of_tables t) in
    let thetas = row_line f.value f.operations t Thetas in
    let eigens = eigen_lines f.value f.operations t (suc (diameter_of t)) in
    let duals = dual_lines f.value f.operations t (suc (diameter_of t)) in
    let one = c.in_ok-write_root_line.ensures.ok ∙ ap (λ (r : ℕ). old ++ root_line r) c.root.ensures in
    let two = onward old head thetas one c.in_ok-write_row_line.ensures.ok in
    let three = onward old (head ++ thetas) eigens two c.in_ok-write_eigen_lines.ensures.ok in
    ends_ok _ old ((head ++ thetas) ++ eigens) duals _ c.write_dual_lines.ensures.ok three

pub returns-clause-err : goal.returns-clause-err
returns-clause-err g c =
    let f = g.F.Field in
    let t = c.args.frame.now in
    let old = c.args.out.now.items in
    let head = root_line (root_of_tables t) in
    let thetas = row_line f.value f.operations t Thetas in
    let eigens = eigen_lines f.value f.operations t (suc (diameter_of t)) in
    let duals = dual_lines f.value f.operations t (suc (diameter_of t)) in
    let one = c.in_ok-write_root_line.ensures.ok ∙ ap (λ (r : ℕ). old ++ root_line r) c.root.ensures in
    let two = onward old head thetas one c.in_ok-write_row_line.ensures.ok in
    let three = onward old (head ++ thetas) eigens two c.in_ok-write_eigen_lines.ensures.ok in
    begins_last _ old ((head ++ thetas) ++ eigens) duals _ c.write_dual_lines.ensures.err three refl
