use Rattle.std.proofs.Common.{rules}
use Rattle.std.proofs.lemmas.Int.{to_z-of_z}
use Rattle.std.specs.Int.{w128}
use Rattle.drg_whole.proofs.whole.Whole.common_divisor.Goals as goal

pub returns-clause-greatest : goal.returns-clause-greatest
returns-clause-greatest c =
    let r = to_z-of_z w128 c.gcd.result (search rules) in
    let a = to_z-of_z w128 c.args.self.value (search rules) in
    let b = to_z-of_z w128 c.args.other.value (search rules) in
    let e = rw (a, b) at c.gcd.ensures.greatest in rw r e
