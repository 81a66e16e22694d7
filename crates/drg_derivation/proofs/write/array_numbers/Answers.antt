use Rattle.std.proofs.Common.{arith}
use Rattle.drg_derivation.proofs.write.array_numbers.Goals as goal

pub push-requires : goal.push-requires
push-requires c =
    let short = c.d.ensures.array.short in
    let d = c.d.ensures.value in
    let len = c.numbers.invariant.len in
    let inside = c.numbers-test.true in
    (omega arith, omega (arith, short, d, len, inside))
