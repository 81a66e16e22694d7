use Rattle.std.proofs.Common.{◌≡◌, ℕ, ◌*◌, ◌%◌, rules}
use Rattle.drg_intersection.specs.Numbers.{k_at, n_of}
use Rattle.drg_counting.proofs.Products.{product_rest}
use Rattle.drg_counting.proofs.divisibility.fails_handshake.Goals as goal

pub returns : goal.returns
returns c =
    let n : ℕ = n_of c.args.numbers.now in
    let k : ℕ = k_at c.args.numbers.now c.args.i in
    let left : c.of-vertices.result.value ≡ n % 2 = search rules in
    let right : c.of.result.value ≡ k % 2 = search rules in
    let product : c.times.result.value ≡ (n * k) % 2 =
    product_rest 2 n k c.of-vertices.result c.of.result c.times.result c.of-vertices.ensures.modulus left c.of.ensures.modulus right
    c.times.ensures.modulus c.times.ensures.value in
    search rules
