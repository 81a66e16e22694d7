use Rattle.std.proofs.Common.{◌≡◌, ℕ, ap, sym, ◌∙◌, subst}
use Rattle.drg_matrices.specs.Tables.{root_of_tables}
use Rattle.drg_krein.proofs.Counts.{count_apart}
use Rattle.drg_krein.proofs.numbers.scale.Goals as goal

pub div-requires-clause-nonzero : goal.div-requires-clause-nonzero
div-requires-clause-nonzero g c =
    let f = g.F.Field in
    let root = root_of_tables c.args.frame.now in
    let laws = g.met.F.Field.laws root (subst f.HasRoot c.m.ensures.root (g.met.F.Field.has_root c.m.result)) in
    let product_root : f.root_of c.in_ok-product.product ≡ root = c.in_ok-product.ensures.root ∙ c.m.ensures.root in
    let told = c.requires.frame in λ e.
    count_apart laws told.array c.args.numbers.now told.is_array told.numbers_are (sym c.count.ensures.value ∙ e ∙ ap (λ (r : ℕ). (f.operations r).nil) product_root)
