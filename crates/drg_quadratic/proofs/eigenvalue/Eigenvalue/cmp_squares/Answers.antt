use Rattle.std.proofs.Common.{◌^◌, arith}
use Rattle.std.proofs.lemmas.Nat.{mul-lt}
use Rattle.drg_quadratic.proofs.eigenvalue.Eigenvalue.cmp_squares.Goals as goal

pub overflow_mul-multiple : goal.overflow_mul-multiple
overflow_mul-multiple c = omega (arith, mul-lt c.from.result c.square.result (2 ^ 32) (2 ^ 64) (omega arith) (omega arith))
