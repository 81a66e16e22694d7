use Rattle.std.proofs.Common.{◌+ℤ◌, ◌*ℤ◌, ap₂, ◌∙◌, rules}
use Rattle.drg_algebra.specs.Ratio.{ratio}
use Rattle.drg_algebra.specs.Reduced.{common, top, bottom, bottom_above, reduced, top_ratio}
use Rattle.drg_fraction.specs.Fraction.{rational_of}
use Rattle.drg_fraction.proofs.Sums.{sum_parts}
use Rattle.drg_algebra.proofs.Reductions.{sum_under_above, sum_is}
use Rattle.drg_fraction.proofs.fraction.Fraction.general_sum.Goals as goal

pub invariant_of-result : goal.invariant_of-result
invariant_of-result c =
    let x = c.args.self in
    let y = c.args.other in
    let sum = c.in_ok-sum.ensures.1 ∙ ap₂ ◌+ℤ◌ c.in_ok-left.ensures.1 c.in_ok-right.ensures.1 in
    let parts = sum_parts x.num.value x.den.value y.num.value y.den.value y.above x.reduced y.reduced _ _ _ _ _ _ _ _ c.common_divisor-divisor.ensures.value c.over-own_scale.ensures.value
    c.over-other_scale.ensures.value sum c.in_ok-under.ensures.1 c.common_divisor-rest.ensures.value c.over.ensures.value c.over-2.ensures.value in
    let under = sum_under_above x.num.value x.den.value y.num.value y.den.value x.above y.above in
    let over = x.num.value *ℤ bottom x.den.value y.den.value +ℤ y.num.value *ℤ top x.den.value y.den.value in
    record { above = rw parts.1 (bottom_above over _ under); reduced = ap₂ common parts.0 parts.1 ∙ reduced over _ under }

pub returns : goal.returns
unfolding rational_of
returns c =
    let x = c.args.self in
    let y = c.args.other in
    let sum = c.in_ok-sum.ensures.1 ∙ ap₂ ◌+ℤ◌ c.in_ok-left.ensures.1 c.in_ok-right.ensures.1 in
    let parts = sum_parts x.num.value x.den.value y.num.value y.den.value y.above x.reduced y.reduced _ _ _ _ _ _ _ _ c.common_divisor-divisor.ensures.value c.over-own_scale.ensures.value
    c.over-other_scale.ensures.value sum c.in_ok-under.ensures.1 c.common_divisor-rest.ensures.value c.over.ensures.value c.over-2.ensures.value in
    let under = sum_under_above x.num.value x.den.value y.num.value y.den.value x.above y.above in
    (search rules, ap₂ ratio parts.0 parts.1 ∙ top_ratio _ _ under ∙ sum_is x.num.value x.den.value y.num.value y.den.value x.above y.above)
