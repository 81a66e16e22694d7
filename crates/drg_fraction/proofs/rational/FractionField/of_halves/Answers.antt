use Rattle.std.proofs.Common.{◌≡◌, pos, ap, ap₂, ◌∙◌}
use Rattle.std.proofs.lemmas.Int.{to_z-of_z}
use Rattle.std.specs.Int.{w128}
use Rattle.drg_algebra.specs.Rational.{plus}
use Rattle.drg_algebra.specs.Ratio.{ratio}
use Rattle.drg_fraction.specs.Fraction.{rational_of}
use Rattle.drg_fraction.proofs.Parts.{halves_are}
use Rattle.drg_fraction.proofs.rational.FractionField.of_halves.Goals as goal

pub returns-clause-value : goal.returns-clause-value
returns-clause-value c =
    let half : rational_of c.make.result ≡ ratio c.args.s (pos 2) = c.make.ensures ∙ ap (λ n. ratio n (pos 2)) (to_z-of_z w128 c.args.s c.ranges.s) in
    ap₂ plus half half ∙ halves_are c.args.s c.args._f
