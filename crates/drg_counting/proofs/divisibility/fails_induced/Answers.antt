use Rattle.std.proofs.Common.{◌≡◌, ℕ, ◌*◌, ◌%◌, rules}
use Rattle.drg_intersection.specs.Numbers.{k_at, p_at}
use Rattle.drg_counting.proofs.Products.{product_rest}
use Rattle.drg_counting.proofs.divisibility.fails_induced.Goals as goal

pub returns : goal.returns
returns c =
    let k : ℕ = k_at c.args.numbers.now c.args.i in
    let p : ℕ = p_at c.args.numbers.now c.args.i c.args.i c.args.j in
    let left : c.of-sphere.result.value ≡ k % 2 = search rules in
    let right : c.of.result.value ≡ p % 2 = search rules in
    let product : c.times.result.value ≡ (k * p) % 2 =
    product_rest 2 k p c.of-sphere.result c.of.result c.times.result c.of-sphere.ensures.modulus left c.of.ensures.modulus right
    c.times.ensures.modulus c.times.ensures.value in
    search rules
