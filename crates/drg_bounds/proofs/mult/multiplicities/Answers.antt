use Rattle.std.proofs.Common.{ℕ, ◌+◌, refl, sym, ap, ◌∙◌, arith}
use Rattle.drg_algebra.specs.Rational.{whole}
use Rattle.drg_matrices.specs.Tables.{diameter_of, root_of_tables, dual_in}
use Rattle.drg_matrix.specs.Frame.{multiplicity}
use Rattle.drg_bounds.specs.Multiplicities.{IsPositiveWhole}
use Rattle.drg_bounds.proofs.FirstFailures.{hold_next}
use Rattle.drg_bounds.proofs.mult.multiplicities.Goals as goal

pub indices-preserved : goal.indices-preserved
indices-preserved g c =
    let f = g.F.Field in
    let frame = c.args.frame.now in
    let told = c.if-not-is_positive_whole.ensures.0 refl in
    let here : IsPositiveWhole (f.operations (root_of_tables frame)) (multiplicity (dual_in f.value f.operations frame) c.indices.i) = (told.0, told.1, sym c.m.ensures.value ∙ told.2 ∙ ap (λ (r : ℕ). (f.operations r).rational (whole told.0)) c.m.ensures.root) in
    hold_next (f.operations (root_of_tables frame)) (diameter_of frame) (dual_in f.value f.operations frame) c.indices.i (c.indices.i + 1) (omega arith) c.indices.invariant here
