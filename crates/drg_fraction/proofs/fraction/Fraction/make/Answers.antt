use Rattle.std.proofs.Common.{◌≡◌, ap, ap₂, ◌∙◌, arith}
use Rattle.std.specs.Prelude.{neg_ℤ}
use Rattle.std.proofs.lemmas.Int.{to_z-of_z}
use Rattle.drg_algebra.specs.Ratio.{ratio}
use Rattle.drg_algebra.proofs.RatioLemmas.{sign_of_denominator}
use Rattle.drg_fraction.proofs.fraction.Fraction.make.Goals as goal

pub returns-then-den-lt0 : goal.returns-then-den-lt0
returns-then-den-lt0 c =
    let n : c.new-num.result.value ≡ c.args.num = grind (arith, to_z-of_z) in
    let d : c.new-den.result.value ≡ c.args.den = grind (arith, to_z-of_z) in
    c.reduce.ensures ∙ ap₂ ratio (c.negated.ensures ∙ ap neg_ℤ n) (c.negated-then-den-lt0.ensures ∙ ap neg_ℤ d) ∙ sign_of_denominator c.args.num c.args.den
