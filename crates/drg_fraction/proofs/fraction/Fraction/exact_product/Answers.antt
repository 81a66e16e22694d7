use Rattle.std.proofs.Common.{◌≡◌, pos, refl, ap, ◌∙◌, arith, rules}
use Rattle.std.proofs.lemmas.Int.{ints}
use Rattle.drg_algebra.specs.Rational.{whole}
use Rattle.drg_fraction.specs.Fraction.{rational_of}
use Rattle.drg_fraction.proofs.Shortcuts.{whole_product_fits, whole_product_is, zero_by_any_fits, zero_by_any_is, any_by_zero_fits, any_by_zero_is}
use Rattle.drg_fraction.proofs.fraction.Fraction.exact_product.Goals as goal

pub returns-in_ok-times : goal.returns-in_ok-times
unfolding rational_of
returns-in_ok-times c =
    let x = c.args.self in
    let y = c.args.other in
    let b : x.den.value ≡ pos 1 = c.if-is_whole.ensures.0 refl in
    let d : y.den.value ≡ pos 1 = c.if-is_whole-2.ensures.0 refl in (
      whole_product_fits x.num.value x.den.value y.num.value y.den.value b d ∙ c.in_ok-times.ensures.0,
      c.whole.ensures ∙ ap whole c.in_ok-times.ensures.1 ∙ whole_product_is x.num.value x.den.value y.num.value y.den.value b d,
    )

pub returns-in_err-times : goal.returns-in_err-times
returns-in_err-times c =
    let x = c.args.self in
    let y = c.args.other in
    let b : x.den.value ≡ pos 1 = c.if-is_whole.ensures.0 refl in
    let d : y.den.value ≡ pos 1 = c.if-is_whole-2.ensures.0 refl in
    let error = c.from_residual.ensures.0 in
    rw (whole_product_fits x.num.value x.den.value y.num.value y.den.value b d) (search rules)

pub returns-then-self-eq0 : goal.returns-then-self-eq0
unfolding rational_of
returns-then-self-eq0 c =
    let x = c.args.self in
    let y = c.args.other in
    let a : x.num.value ≡ pos 0 = grind (arith, ints) in (
      zero_by_any_fits x.num.value x.den.value y.num.value y.den.value a x.above x.reduced y.above,
      zero_by_any_is x.num.value x.den.value (rational_of y) a x.above,
    )

pub returns-then-other-eq0 : goal.returns-then-other-eq0
unfolding rational_of
returns-then-other-eq0 c =
    let x = c.args.self in
    let y = c.args.other in
    let n : y.num.value ≡ pos 0 = grind (arith, ints) in (
      any_by_zero_fits x.num.value x.den.value y.num.value y.den.value n y.above y.reduced x.above,
      any_by_zero_is y.num.value y.den.value (rational_of x) n y.above,
    )
