use Rattle.std.proofs.Common.{◌^◌, arith}
use Rattle.std.proofs.lemmas.Nat.{mul-lt}
use Rattle.drg_quadratic.proofs.eigenvalue.square.Goals as goal

pub overflow_mul-result : goal.overflow_mul-result
overflow_mul-result c =
    let x = c.from-wide.result in
    omega (arith, mul-lt x x (2 ^ 32) (2 ^ 32) (omega arith) (omega arith))

pub returns-clause-range : goal.returns-clause-range
returns-clause-range c =
    let x = c.from-wide.result in
    omega (arith, mul-lt x x (2 ^ 32) (2 ^ 32) (omega arith) (omega arith))
