use Rattle.std.proofs.Common.{◌≡◌, rules, ap, subst, sym, ◌∙◌}
use Rattle.std.specs.Prelude.{pos, ◌≤ℤ◌}
use Rattle.std.proofs.lemmas.Int.{to_z-of_z}
use mir.Val.{to_z, of_z}
use mir.Syntax.{w128}
use Rattle.drg_algebra.specs.Rational.{whole}
use Rattle.drg_array.specs.declared.node.Node.TheVariants.{K, P}
use Rattle.drg_intersection.proofs.Views.{numbers_are}
use Rattle.drg_intersection.proofs.numbers.numbers_or_before.Goals as goal

pub returns-in-Ok-clause-numbers : goal.returns-in-Ok-clause-numbers
returns-in-Ok-clause-numbers c =
    let n : to_z w128 (of_z w128 c.in-Ok.n) ≡ c.in-Ok.n = to_z-of_z w128 c.in-Ok.n (search rules) in
    numbers_are c.args.array.now c.d-d.result c.fill-sum.new.sizes.items (to_z w128 (of_z w128 c.in-Ok.n)) c.fill-sum.new.table.items c.d-d.ensures.value c.in-Ok.ensures.all_sizes c.in-Ok.ensures.sizes
    (c.in-Ok.ensures.sum ∙ ap whole (sym n)) (subst (λ z. pos 0 ≤ℤ z) (sym n) c.in-Ok.ensures.natural) c.in-Ok.ensures.all_cells c.in-Ok.ensures.cells

pub returns-in-Ok-clause-size : goal.returns-in-Ok-clause-size
returns-in-Ok-clause-size c = λ i place. (c.in-Ok.ensures.pass (K i) place.1).right

pub returns-in-Ok-clause-intersect : goal.returns-in-Ok-clause-intersect
returns-in-Ok-clause-intersect c = λ h i j hh hi hj. (c.in-Ok.ensures.pass (P h i j) (hh, hi, hj)).right
