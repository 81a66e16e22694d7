use Rattle.std.proofs.Common.{◌≡◌, ℕ, suc, ◌<◌, ◌+◌, arith, inl, sym, ◌∙◌, subst, ap, ap₂, true, not}
use Rattle.std.specs.Prelude.{is_ok}
use Rattle.drg_array.specs.Entries.{diameter}
use Rattle.drg_array.specs.declared.node.Node.TheVariants.{Rec}
use Rattle.drg_matrix.specs.Table.{cell}
use Rattle.drg_matrices.specs.Values.{item_at}
use Rattle.drg_matrices.specs.Formulas.{eigen_entry}
use Rattle.drg_matrices.specs.Fits.{Fits, recurrence_fits}
use Rattle.drg_matrices.specs.Faults.{HoldsBefore}
use Rattle.drg_matrices.proofs.Filled.{holds_next}
use Rattle.drg_matrices.proofs.Items.{read_item}
use Rattle.drg_matrices.proofs.RecurrenceTests.{same_recurrence}
use Rattle.drg_matrices.proofs.checks.row_of_recurrences.Goals as goal

pub places-preserved : goal.places-preserved
places-preserved g c =
    let f = g.F.Field in
    let o = f.operations c.args.root in
    let a = c.args.array.now in
    let n = suc (diameter a) in
    let theta = item_at o f.value c.args.thetas.now in
    let i = c.args.i in
    let j = c.places.j in
    let inside : j < n = omega arith in
    let value = read_item f.value o c.args.thetas.now i c.index-thetas-i.result (omega arith) c.index-thetas-i.is in
    let row = same_recurrence o a (cell f.value f.operations c.args.eigen.now i) (eigen_entry o a (theta i)) (λ l h. c.requires.eigen.values i l h (inl c.requires.inside)) (theta i) j inside in
    let told = c.recurrence.ensures ∙ ap₂ (λ (r : ℕ) (x : f.V). recurrence_fits (f.operations r) a x (cell f.value f.operations c.args.eigen.now i) j) c.requires.eigen.same_root value in
    let answer : is_ok c.recurrence.result ≡ true = c.is_err.ensures.negation ∙ ap not c.if-is_err.false in
    let fits : Fits o a theta (Rec i j) = sym row ∙ sym told ∙ answer in
    let place : j + 1 ≡ suc j = omega arith in
    subst (λ (m : ℕ). HoldsBefore n (λ i j. Fits o a theta (Rec i j)) i m) (sym place) (holds_next n (λ i j. Fits o a theta (Rec i j)) i j c.places.invariant fits)
