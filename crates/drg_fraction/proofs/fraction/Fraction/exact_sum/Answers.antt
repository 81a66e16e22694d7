use Rattle.std.proofs.Common.{◌≡◌, pos, refl, ap, ◌∙◌, arith, rules}
use Rattle.std.proofs.lemmas.Int.{ints}
use Rattle.drg_algebra.specs.Rational.{whole}
use Rattle.drg_fraction.specs.Fraction.{rational_of}
use Rattle.drg_fraction.proofs.Shortcuts.{whole_sum_fits, whole_sum_is, zero_left_fits, zero_left_is, zero_right_fits, zero_right_is}
use Rattle.drg_fraction.proofs.fraction.Fraction.exact_sum.Goals as goal

pub returns-in_ok-plus : goal.returns-in_ok-plus
unfolding rational_of
returns-in_ok-plus c =
    let x = c.args.self in
    let y = c.args.other in
    let b : x.den.value ≡ pos 1 = c.if-is_whole.ensures.0 refl in
    let d : y.den.value ≡ pos 1 = c.if-is_whole-2.ensures.0 refl in (
      whole_sum_fits x.num.value x.den.value y.num.value y.den.value b d x.num.in_range y.num.in_range ∙ c.in_ok-plus.ensures.0,
      c.whole.ensures ∙ ap whole c.in_ok-plus.ensures.1 ∙ whole_sum_is x.num.value x.den.value y.num.value y.den.value b d,
    )

pub returns-in_err-plus : goal.returns-in_err-plus
returns-in_err-plus c =
    let x = c.args.self in
    let y = c.args.other in
    let b : x.den.value ≡ pos 1 = c.if-is_whole.ensures.0 refl in
    let d : y.den.value ≡ pos 1 = c.if-is_whole-2.ensures.0 refl in
    let error = c.from_residual.ensures.0 in
    rw (whole_sum_fits x.num.value x.den.value y.num.value y.den.value b d x.num.in_range y.num.in_range) (search rules)

pub returns-then-self-eq0 : goal.returns-then-self-eq0
unfolding rational_of
returns-then-self-eq0 c =
    let x = c.args.self in
    let y = c.args.other in
    let a : x.num.value ≡ pos 0 = grind (arith, ints) in (
      zero_left_fits x.num.value x.den.value y.num.value y.den.value a x.above x.reduced y.num.in_range y.den.in_range,
      zero_left_is x.num.value x.den.value (rational_of y) a x.above,
    )

pub returns-then-other-eq0 : goal.returns-then-other-eq0
unfolding rational_of
returns-then-other-eq0 c =
    let x = c.args.self in
    let y = c.args.other in
    let n : y.num.value ≡ pos 0 = grind (arith, ints) in (
      zero_right_fits x.num.value x.den.value y.num.value y.den.value n y.above y.reduced x.num.in_range x.den.in_range,
      zero_right_is y.num.value y.den.value (rational_of x) n y.above,
    )
