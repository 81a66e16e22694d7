use Rattle.std.proofs.Common.{◌≡◌, rules, to_z, of_z, FitsSigned}
use mir.Syntax.{w128}
use mir.Facts.{to_z-of_z}
use Rattle.drg_linear.proofs.Coefficients.{coefficient_in_range}
use Rattle.drg_linear.proofs.equation.Equation.coefficient.Goals as goal

pub new-requires : goal.new-requires
new-requires c =
    let fits : FitsSigned w128 c.coefficient_of.result = search rules in
    let is : to_z w128 (of_z w128 c.coefficient_of.result) ≡ c.coefficient_of.result = to_z-of_z fits in
    rw (is, c.coefficient_of.ensures, c.as_slice.ensures)
    (coefficient_in_range c.args.unknown (record { terms = c.self.inside.terms; right = c.self.inside.right }) c.self.invariant)
