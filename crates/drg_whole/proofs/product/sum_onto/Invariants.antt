use Rattle.std.proofs.Common.{◌≡◌, drop}
use Rattle.drg_whole.specs.Sums.{sum_from, sum_fits_from, products_of}
use Rattle.drg_whole.proofs.product.sum_onto.Given as goal

abbrev pub invariant-products : goal.invariant-products
invariant-products l =
    let rest = products_of (drop l.product-index l.products) in
    (sum_from l.sum.value rest ≡ sum_from l.fn.total.value (products_of l.products)) × (sum_fits_from l.sum.value rest ≡ sum_fits_from l.fn.total.value (products_of l.products))
