use Rattle.std.proofs.Common.{ℕ, pos, ap, ◌∙◌, subst}
use Rattle.drg_algebra.specs.Rational.{whole}
use Rattle.drg_matrices.specs.Tables.{root_of_tables}
use Rattle.drg_bounds.proofs.sums.zero.Goals as goal

pub returns-clause-value : goal.returns-clause-value
returns-clause-value g c =
    let f = g.F.Field in
    let root = root_of_tables c.args.frame.now in
    let laws = g.met.F.Field.laws root (subst f.HasRoot c.m-like.ensures.root (g.met.F.Field.has_root c.m-like.result)) in
    c.of_int.ensures.value ∙ ap (λ (r : ℕ). (f.operations r).rational (whole (pos 0))) (c.root.ensures ∙ c.m-like.ensures.root) ∙ laws.rational_nil
