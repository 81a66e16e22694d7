use Rattle.std.proofs.Common.{◌≡◌, ◌≤◌, ◌+◌, true, false, not, ap, sym, ◌∙◌, arith}
use Rattle.std.specs.Prelude.{is_ok}
use Rattle.drg_array.specs.declared.node.Node.TheVariants.{Kprod}
use Rattle.drg_matrices.specs.Tables.{diameter_of, root_of_tables}
use Rattle.drg_krein.specs.Values.{values_in}
use Rattle.drg_krein.specs.Fits.{Fits}
use Rattle.drg_krein.proofs.Orders.{before_next}
use Rattle.drg_krein.proofs.FirstFaults.{not_fitting, product_fault}
use Rattle.drg_krein.proofs.Products.{product_is}
use Rattle.drg_krein.proofs.checks.products_of_pair.Goals as goal

pub returns-then-is_err-clause-fault : goal.returns-then-is_err-clause-fault
returns-then-is_err-clause-fault g c =
    let f = g.F.Field in
    let frame = c.args.frame.now in
    let v = values_in f.value f.operations c.args.numbers.now frame in
    let r = c.requires in
    let inside : c.rows.r ≤ diameter_of frame = omega arith in
    let told = product_is f.value f.operations c.args.numbers.now frame c.args.dual.now c.args.table.now c.args.i c.args.j c.rows.r r.ordered r.inside inside r.dual r.table in
    let answer : is_ok c.product.result ≡ false = c.is_err.ensures.negation ∙ ap not c.if-is_err.true in
    product_fault (f.operations (root_of_tables frame)) v c.args.i c.args.j c.rows.r c.wide_product.result c.wide_product.ensures r.ordered r.inside inside r.numbers
    (not_fitting _ (sym told ∙ sym c.product.ensures ∙ answer)) c.rows.invariant

pub rows-preserved : goal.rows-preserved
rows-preserved g c =
    let f = g.F.Field in
    let frame = c.args.frame.now in
    let o = f.operations (root_of_tables frame) in
    let v = values_in f.value f.operations c.args.numbers.now frame in
    let r = c.requires in
    let inside : c.rows.r ≤ diameter_of frame = omega arith in
    let told = product_is f.value f.operations c.args.numbers.now frame c.args.dual.now c.args.table.now c.args.i c.args.j c.rows.r r.ordered r.inside inside r.dual r.table in
    let answer : is_ok c.product.result ≡ true = c.is_err.ensures.negation ∙ ap not c.if-is_err.false in
    before_next v.d (λ i j r. Fits o v (Kprod i j r)) c.args.i c.args.j c.rows.r (c.rows.r + 1) (omega arith) c.rows.invariant (sym told ∙ sym c.product.ensures ∙ answer)
