use Rattle.std.proofs.Common.{◌<◌, ◌^◌, ◌≡◌, arith, sym, ◌∙◌, ap, subst, ℤ, pos, unsigned_abs}
use Rattle.std.proofs.lemmas.Int.{ints, to_z_pos, to_z-of_z}
use Rattle.std.specs.Int.{w128, IsGcd}
use Rattle.drg_algebra.specs.Gcd.{gcd_of, gcd_is, gcd_below}
use Rattle.drg_whole.proofs.Multiples.{zero_divides}
use Rattle.drg_whole.proofs.divisor.gcd.Goals as goal

pub overflow_cast-result : goal.overflow_cast-result
overflow_cast-result c =
    let small : gcd_of (unsigned_abs c.args.a) (unsigned_abs c.args.b) < 2 ^ 127 = gcd_below _ _ _ c.requires.left c.requires.right in
    grind (arith, ints)

pub returns-clause-value : goal.returns-clause-value
returns-clause-value c =
    let small : gcd_of (unsigned_abs c.args.a) (unsigned_abs c.args.b) < 2 ^ 127 = gcd_below _ _ _ c.requires.left c.requires.right in
    let e : c.gcd_unsigned.result ≡ gcd_of (unsigned_abs c.args.a) (unsigned_abs c.args.b) = grind (arith, to_z-of_z) in
    to_z_pos w128 _ (rw e small) ∙ ap pos e

pub returns-clause-not_negative : goal.returns-clause-not_negative
returns-clause-not_negative c = rw (returns-clause-value c) (omega (arith, ints))

pub returns-clause-greatest : goal.returns-clause-greatest
returns-clause-greatest c =
    subst (λ (z : ℤ). IsGcd (unsigned_abs c.args.a) (unsigned_abs c.args.b) (unsigned_abs z)) (sym (returns-clause-value c)) (gcd_is (unsigned_abs c.args.a) (unsigned_abs c.args.b))

pub returns-clause-zero : goal.returns-clause-zero
returns-clause-zero c = λ e. (let g = returns-clause-greatest c in (zero_divides _ c.args.a g.0 e, zero_divides _ c.args.b g.1 e))
