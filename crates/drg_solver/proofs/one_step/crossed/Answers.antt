use Rattle.std.proofs.Common.{◌≡◌, rules, to_z, of_z, ap, ◌∙◌, pos}
use mir.Syntax.{w128}
use mir.Facts.{to_z-of_z}
use Rattle.drg_linear.specs.Unknowns.{place}
use Rattle.drg_linear.specs.Equations.{EquationContent}
use Rattle.drg_linear.specs.Values.{greatest_value}
use Rattle.drg_rooms.specs.Combinations.{equation_at, no_equation}
use Rattle.drg_solver.proofs.Comparisons.{not_at_most}
use Rattle.drg_solver.proofs.Passes.{same_at}
use Rattle.drg_solver.proofs.Crossing.{values_cross}
use Rattle.drg_solver.proofs.one_step.crossed.Goals as goal

pub returns-clause-some : goal.returns-clause-some
returns-clause-some c =
    let z = c.greatest_value-number.result.value in
    let high : to_z w128 (of_z w128 z) ≡ z = to_z-of_z {w = w128} (search rules) in
    let low : to_z w128 (of_z w128 c.in_ok-low.low.number) ≡ c.in_ok-low.low.number = to_z-of_z {w = w128} (search rules) in
    let equations = c.args.equations.now in
    let there : c.place.result ≡ place c.args.room.now.d c.args.term.0 = c.place.ensures ∙ ap (λ n. place n c.args.term.0) c.d.ensures.value in
    let same : c.index-equations-n.result ≡ equation_at equations (pos c.args.n) = c.index-equations-n.is ∙ same_at equations c.args.n c.index-equations-n.result no_equation c.requires.number in
    let is = c.greatest_value-number.ensures ∙ ap (λ (e : EquationContent). greatest_value c.args.room.now.d c.args.room.now.bounds c.args.term.0 e) same in
    let below = not_at_most _ _ (rw (low, high) at c.if-number-low.false) in
    rw high
    (values_cross c.args.room.now equations c.args.table.now c.args.n c.place.result c.args.term c.in_ok-low.low z c.requires.number c.requires.fits c.requires.equations c.requires.term c.requires.table
    c.in_ok-low.ensures there is below)
