use Rattle.std.proofs.Common.{ℕ, pos, ap, sym, ◌∙◌}
use Rattle.drg_algebra.specs.Rational.{whole}
use Rattle.drg_bounds.proofs.BoundSigns.{two_apart}
use Rattle.drg_bounds.proofs.sums.half_product.Goals as goal

pub div-requires-clause-nonzero : goal.div-requires-clause-nonzero
div-requires-clause-nonzero g c =
    let f = g.F.Field in
    let root = f.root_of c.args.x in
    let laws = g.met.F.Field.laws root (g.met.F.Field.has_root c.args.x) in
    λ e. two_apart laws (sym (c.of_int-2.ensures.value ∙ ap (λ (r : ℕ). (f.operations r).rational (whole (pos 2))) c.root-2.ensures) ∙ e
    ∙ ap (λ (r : ℕ). (f.operations r).nil) c.in_ok-product.ensures.root)
