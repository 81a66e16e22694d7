use Rattle.std.proofs.Common.{◌≡◌, pos, ap, ◌∙◌}
use Rattle.std.specs.Int.{w128}
use Rattle.std.proofs.lemmas.Int.{to_z-of_z}
use Rattle.drg_algebra.specs.Ratio.{ratio}
use Rattle.drg_fraction.specs.Fraction.{rational_of}
use Rattle.drg_algebra.proofs.WholeParts.{zero_ratio}
use Rattle.drg_quadratic.proofs.Halves.{twice_halves}
use Rattle.drg_quadratic.proofs.quadratic.QuadraticField.of_halves.Goals as goal

pub invariant_of-result : goal.invariant_of-result
invariant_of-result c =
    let b : rational_of c.make-2.result ≡ ratio c.args.f (pos 2) = c.make-2.ensures ∙ ap (λ n. ratio n (pos 2)) (to_z-of_z w128 c.args.f c.ranges.f) in
    record { has_root = c.requires.root; flat = λ e. b ∙ ap (λ n. ratio n (pos 2)) (c.requires.flat e) ∙ zero_ratio (pos 2) (record { lt = tt }) }

pub returns-clause-value : goal.returns-clause-value
returns-clause-value c =
    let a : rational_of c.make.result ≡ ratio c.args.s (pos 2) = c.make.ensures ∙ ap (λ n. ratio n (pos 2)) (to_z-of_z w128 c.args.s c.ranges.s) in
    let b : rational_of c.make-2.result ≡ ratio c.args.f (pos 2) = c.make-2.ensures ∙ ap (λ n. ratio n (pos 2)) (to_z-of_z w128 c.args.f c.ranges.f) in
    twice_halves c.args.root c.args.s c.args.f c.requires.flat _ a b
