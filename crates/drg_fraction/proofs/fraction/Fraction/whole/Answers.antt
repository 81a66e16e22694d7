use Rattle.std.proofs.Common.{◌≡◌, pos, ap, ◌∙◌, arith}
use Rattle.std.proofs.lemmas.Int.{ints}
use Rattle.drg_algebra.specs.Ratio.{ratio, ratio_one}
use Rattle.drg_algebra.specs.Reduced.{common}
use Rattle.drg_fraction.specs.Fraction.{rational_of}
use Rattle.drg_algebra.proofs.WholeParts.{whole_reduced}
use Rattle.drg_fraction.proofs.fraction.Fraction.whole.Goals as goal

pub invariant_of-result : goal.invariant_of-result
invariant_of-result c =
    let one : c.new.result.value ≡ pos 1 = omega (arith, ints) in
    record { above = omega (arith, ints); reduced = ap (common c.args.num.value) one ∙ whole_reduced c.args.num.value }

pub returns : goal.returns
unfolding rational_of
returns c =
    let one : c.new.result.value ≡ pos 1 = omega (arith, ints) in
    ap (ratio c.args.num.value) one ∙ ratio_one c.args.num.value
