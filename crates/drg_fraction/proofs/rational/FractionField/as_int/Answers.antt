use Rattle.std.proofs.Common.{◌≡◌, pos, sym, ap, ◌∙◌, rules, arith}
use Rattle.std.proofs.lemmas.Int.{ints, to_z-of_z}
use Rattle.std.specs.Int.{w128}
use Rattle.drg_algebra.specs.Rational.{whole}
use Rattle.drg_algebra.proofs.WholeParts.{whole_value, value_whole}
use Rattle.drg_fraction.proofs.rational.FractionField.as_int.Goals as goal

pub returns-then-den-eq1-clause-whole : goal.returns-then-den-eq1-clause-whole
returns-then-den-eq1-clause-whole c =
    let n = to_z-of_z w128 c.num.result (search rules) in
    let one : c.den.result ≡ pos 1 = omega (arith, ints) in
    whole_value _ (sym c.den.ensures.value ∙ one) ∙ ap whole (sym (n ∙ c.num.ensures.value))

pub returns-else-den-eq1-clause-whole : goal.returns-else-den-eq1-clause-whole
returns-else-den-eq1-clause-whole c = λ n e. let one : c.den.result ≡ pos 1 = c.den.ensures.value ∙ value_whole _ n e in omega (arith, ints)
