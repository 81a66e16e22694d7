use Rattle.std.proofs.Common.{◌≡◌, ◌*ℤ◌, ap₂, ◌∙◌, rules}
use Rattle.drg_algebra.specs.Ratio.{ratio}
use Rattle.drg_algebra.specs.Reduced.{common, top, bottom}
use Rattle.drg_fraction.specs.Fraction.{rational_of}
use Rattle.drg_algebra.proofs.Reductions.{product_under_above, product_is}
use Rattle.drg_algebra.proofs.Coprime.{product_reduced}
use Rattle.drg_fraction.proofs.fraction.Fraction.general_product.Goals as goal

pub invariant_of-result : goal.invariant_of-result
invariant_of-result c =
    let x = c.args.self in
    let y = c.args.other in
    let over : c.in_ok-over.over.value ≡ top x.num.value y.den.value *ℤ top y.num.value x.den.value = cc c.in_ok-over.ensures.1 in
    let under : c.in_ok-under.under.value ≡ bottom y.num.value x.den.value *ℤ bottom x.num.value y.den.value = cc c.in_ok-under.ensures.1 in
    record {
      above = rw under (product_under_above x.num.value x.den.value y.num.value y.den.value x.above y.above);
      reduced = ap₂ common over under ∙ product_reduced x.num.value x.den.value y.num.value y.den.value x.above y.above x.reduced y.reduced;
    }

pub returns : goal.returns
unfolding rational_of
returns c =
    let x = c.args.self in
    let y = c.args.other in
    let over : c.in_ok-over.over.value ≡ top x.num.value y.den.value *ℤ top y.num.value x.den.value = cc c.in_ok-over.ensures.1 in
    let under : c.in_ok-under.under.value ≡ bottom y.num.value x.den.value *ℤ bottom x.num.value y.den.value = cc c.in_ok-under.ensures.1 in
    (search rules, ap₂ ratio over under ∙ product_is x.num.value x.den.value y.num.value y.den.value x.above y.above)
