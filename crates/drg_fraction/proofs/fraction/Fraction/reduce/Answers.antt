use Rattle.std.proofs.Common.{◌≡◌, ap₂, ◌∙◌}
use Rattle.drg_algebra.specs.Ratio.{ratio}
use Rattle.drg_algebra.specs.Reduced.{common, top, bottom, bottom_above, reduced, top_ratio}
use Rattle.drg_fraction.specs.Fraction.{rational_of}
use Rattle.drg_fraction.proofs.fraction.Fraction.reduce.Goals as goal

pub invariant_of-result : goal.invariant_of-result
invariant_of-result c =
    let over : c.over.result.value ≡ top c.args.num.value c.args.den.value = cc in
    let under : c.over-2.result.value ≡ bottom c.args.num.value c.args.den.value = cc in
    record {
      above = rw under (bottom_above c.args.num.value c.args.den.value c.requires);
      reduced = ap₂ common over under ∙ reduced c.args.num.value c.args.den.value c.requires;
    }

pub returns : goal.returns
unfolding rational_of
returns c =
    let over : c.over.result.value ≡ top c.args.num.value c.args.den.value = cc in
    let under : c.over-2.result.value ≡ bottom c.args.num.value c.args.den.value = cc in
    ap₂ ratio over under ∙ top_ratio c.args.num.value c.args.den.value c.requires
