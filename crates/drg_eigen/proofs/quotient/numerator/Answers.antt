use Rattle.std.proofs.Common.{◌≡◌, rules, ap, sym, ◌∙◌, subst, ℤ}
use Rattle.std.specs.Prelude.{◌*ℤ◌}
use Rattle.std.proofs.lemmas.Int.{to_z-of_z}
use mir.Syntax.{w32, w128}
use Rattle.drg_whole.specs.Range.{in_range}
use Rattle.drg_eigen.specs.Step.{IsNumerator, factor_of}
use Rattle.drg_eigen.specs.declared.divisor.Divisor.{Divisor}
use Rattle.drg_eigen.proofs.Numerators.{at_product}
use Rattle.drg_eigen.proofs.quotient.numerator.Goals as goal

pub returns-in_ok-plus-in-Quadratic : goal.returns-in_ok-plus-in-Quadratic
returns-in_ok-plus-in-Quadratic c =
    let q = c.args.last.value in
    let s : c.new-s.result.value ≡ c.in-Quadratic.s =
    c.new-s.ensures ∙ (to_z-of_z w128 c.from.result (search rules) ∙ (c.from.ensures ∙ to_z-of_z w32 c.in-Quadratic.s (search rules))) in
    let times = c.in_ok-times-in-Quadratic.ensures in
    let plus = c.in_ok-plus-in-Quadratic.ensures in
    subst (λ (d : Divisor). IsNumerator (factor_of d) c.args.before.value c.args.last.value c.args.coefficient.value c.minus-in-Quadratic.result) (sym c.in-Quadratic.is)
    (at_product c.in-Quadratic.s c.in-Quadratic.t c.args.before.value q c.args.coefficient.value _ _ c.minus-in-Quadratic.result
    (ap (λ (z : ℤ). in_range (z *ℤ q)) (sym s) ∙ times.0)
    (ap (λ (z : ℤ). z *ℤ q) (sym s) ∙ sym times.1)
    plus.0 (sym plus.1) c.minus-in-Quadratic.ensures)
