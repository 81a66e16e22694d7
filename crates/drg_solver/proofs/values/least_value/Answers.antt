use Rattle.std.proofs.Common.{◌≡◌, rules, to_z, of_z, refl, ap, sym, ◌∙◌}
use mir.Syntax.{w128}
use mir.Facts.{to_z-of_z}
use Rattle.drg_linear.specs.Equations.{coefficient_of}
use Rattle.drg_linear.specs.Values.{least_by, least_value}
use Rattle.drg_solver.proofs.Terms.{term_coefficient, term_in_range, term_not_zero}
use Rattle.drg_solver.proofs.values.least_value.Goals as goal

pub new-coefficient-requires : goal.new-coefficient-requires
new-coefficient-requires c =
    let is : to_z w128 (of_z w128 c.args.term.1) ≡ c.args.term.1 = to_z-of_z {w = w128} (search rules) in
    rw is (term_in_range c.args.equation.now c.args.term c.requires.equation c.requires.term)

pub ceiling-requires : goal.ceiling-requires
ceiling-requires c =
    let is : to_z w128 (of_z w128 c.args.term.1) ≡ c.args.term.1 = to_z-of_z {w = w128} (search rules) in
    rw (c.new-coefficient.ensures, is) (term_not_zero c.args.equation.now c.args.term c.requires.equation c.requires.term)

pub returns : goal.returns
unfolding least_value
returns c =
    let is : to_z w128 (of_z w128 c.args.term.1) ≡ c.args.term.1 = to_z-of_z {w = w128} (search rules) in
    let own = sym (term_coefficient c.args.equation.now c.args.term c.requires.equation c.requires.term) in
    let value : c.new-coefficient.result.value ≡ coefficient_of c.args.term.0 c.args.equation.now.terms = c.new-coefficient.ensures ∙ is ∙ own in
    let whole : to_z w128 (of_z w128 c.new-coefficient.result.value) ≡ c.new-coefficient.result.value = to_z-of_z {w = w128} (search rules) in
    let side : c.least_by-side.result ≡ least_by (coefficient_of c.args.term.0 c.args.equation.now.terms) = c.least_by-side.ensures ∙ ap least_by (whole ∙ value) in
    rw (c.ceiling.ensures, c.beside-left.ensures, value, side) refl
