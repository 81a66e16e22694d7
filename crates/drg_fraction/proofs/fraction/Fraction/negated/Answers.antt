use Rattle.std.proofs.Common.{ap, sym, ◌∙◌}
use Rattle.drg_algebra.specs.Ratio.{ratio}
use Rattle.drg_fraction.specs.Fraction.{rational_of}
use Rattle.drg_algebra.proofs.RatioLemmas.{negative_of_ratio}
use Rattle.drg_fraction.proofs.fraction.Fraction.negated.Goals as goal

pub returns : goal.returns
unfolding rational_of
returns c =
    let x = c.args.self in
    ap (λ n. ratio n x.den.value) c.negated.ensures ∙ sym (negative_of_ratio x.num.value x.den.value x.above)
