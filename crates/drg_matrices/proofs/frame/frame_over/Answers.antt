use Rattle.std.proofs.Common.{ℕ, length, map, ap, sym, ◌∙◌, subst}
use Rattle.std.specs.Prelude.{IfOk, IfErr}
use Rattle.std.proofs.lemmas.List.{length-map}
use Rattle.drg_matrices.specs.Values.{eigenvalue_in, theta_at}
use Rattle.drg_matrices.specs.Tables.{theta_in, cosine_in, eigen_in, dual_in}
use Rattle.drg_matrices.specs.Frame.{IsFrameOf}
use Rattle.drg_matrices.specs.Filling.{HasFormulas}
use Rattle.drg_matrices.specs.Faults.{AllFit, IsFault}
use Rattle.drg_matrices.proofs.Answering.{if_ok_map}
use Rattle.drg_matrices.proofs.Items.{same_items}
use Rattle.drg_matrices.proofs.Spectra.{spectrum_length}
use Rattle.drg_matrices.proofs.FormulaFrames.{frame_of_formulas}
use Rattle.drg_matrices.proofs.frame.frame_over.Goals as goal

pub tables_of-requires-clause-length : goal.tables_of-requires-clause-length
tables_of-requires-clause-length g c =
    let f = g.F.Field in
    let thetas = c.in_ok-thetas.thetas.items in
    ap length c.deref.ensures.value ∙ sym (length-map thetas f.value) ∙ ap length c.in_ok-thetas.ensures.values ∙ length-map c.args.thetas.now (eigenvalue_in (f.operations c.args.root))
    ∙ spectrum_length c.args.array.now c.args.root c.args.thetas.now c.requires.spectrum

pub returns-clause-frame : goal.returns-clause-frame
returns-clause-frame g c =
    let f = g.F.Field in
    let o = f.operations c.args.root in
    let a = c.args.array.now in
    let thetas = same_items f.value (eigenvalue_in o) o c.deref.result.now c.args.thetas.now (ap (map f.value) c.deref.ensures.value ∙ c.in_ok-thetas.ensures.values) in
    let tables = subst (λ (theta : ℕ → f.V). IfOk c.tables_of.result (HasFormulas f.value f.operations f.root_of c.args.root a theta)) thetas c.tables_of.ensures.tables in
    if_ok_map c.tables_of.result (HasFormulas f.value f.operations f.root_of c.args.root a (theta_at o c.args.thetas.now))
    (λ t. IsFrameOf o c.args.root a (theta_in f.value f.operations t) (cosine_in f.value f.operations t) (eigen_in f.value f.operations t) (dual_in f.value f.operations t))
    (λ t filled. frame_of_formulas f.value f.operations f.root_of c.args.root (g.met.F.Field.laws c.args.root c.requires.allowed) a c.known_valid.ensures c.requires.first c.args.thetas.now c.requires.spectrum t filled)
    tables

pub returns-clause-fit : goal.returns-clause-fit
returns-clause-fit g c =
    let f = g.F.Field in
    let o = f.operations c.args.root in
    let thetas = same_items f.value (eigenvalue_in o) o c.deref.result.now c.args.thetas.now (ap (map f.value) c.deref.ensures.value ∙ c.in_ok-thetas.ensures.values) in
    subst (λ (theta : ℕ → f.V). IfOk c.tables_of.result (λ t. AllFit o c.args.array.now theta)) thetas c.tables_of.ensures.fit

pub returns-clause-fault : goal.returns-clause-fault
returns-clause-fault g c =
    let f = g.F.Field in
    let o = f.operations c.args.root in
    let thetas = same_items f.value (eigenvalue_in o) o c.deref.result.now c.args.thetas.now (ap (map f.value) c.deref.ensures.value ∙ c.in_ok-thetas.ensures.values) in
    subst (λ (theta : ℕ → f.V). IfErr c.tables_of.result (IsFault o c.args.array.now theta)) thetas c.tables_of.ensures.fault
