use Rattle.std.proofs.Common.{◌≡◌, ℕ, ◌*◌, ◌%◌, rules, ◌∙◌}
use Rattle.drg_intersection.specs.Numbers.{k_at, n_of, p_at}
use Rattle.drg_counting.proofs.Products.{product_rest}
use Rattle.drg_counting.proofs.divisibility.fails_triangles.Goals as goal

pub returns : goal.returns
returns c =
    let n : ℕ = n_of c.args.numbers.now in
    let k : ℕ = k_at c.args.numbers.now c.args.i in
    let p : ℕ = p_at c.args.numbers.now c.args.i c.args.i c.args.i in
    let sphere : c.of-sphere.result.value ≡ k % 6 = search rules in
    let neighbours : c.of.result.value ≡ p % 6 = search rules in
    let right : c.times-neighbours.result.value ≡ (k * p) % 6 =
    product_rest 6 k p c.of-sphere.result c.of.result c.times-neighbours.result c.of-sphere.ensures.modulus sphere c.of.ensures.modulus neighbours
    c.times-neighbours.ensures.modulus c.times-neighbours.ensures.value in
    let left : c.of-2.result.value ≡ n % 6 = search rules in
    let product : c.times.result.value ≡ (n * (k * p)) % 6 =
    product_rest 6 n (k * p) c.of-2.result c.times-neighbours.result c.times.result c.of-2.ensures.modulus left
    (c.times-neighbours.ensures.modulus ∙ c.of-sphere.ensures.modulus) right c.times.ensures.modulus c.times.ensures.value in
    search rules
