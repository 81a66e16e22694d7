use Rattle.std.proofs.Common.{◌≡◌, sym, ◌∙◌, ap, arith}
use Rattle.drg_algebra.specs.Gcd.{gcd_of, gcd_step, gcd_zero}
use Rattle.drg_whole.proofs.divisor.gcd_unsigned.Goals as goal

pub loop-y-preserved : goal.loop-y-preserved
loop-y-preserved c = sym (gcd_step c.loop-y.x c.loop-y.y) ∙ c.loop-y.invariant

pub returns : goal.returns
returns c =
    let done : c.loop-y.y ≡ 0 = omega arith in
    sym (gcd_zero c.loop-y.x) ∙ ap (gcd_of c.loop-y.x) (sym done) ∙ c.loop-y.invariant
