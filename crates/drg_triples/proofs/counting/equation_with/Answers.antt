use Rattle.std.proofs.Common.{rules, ◌≡◌, true, to_z, of_z, subst, sym}
use Rattle.std.specs.Prelude.{ℤ}
use Rattle.std.specs.Int.{w128}
use Rattle.std.proofs.lemmas.Int.{to_z-of_z}
use Rattle.drg_linear.specs.Equations.{is_equation}
use Rattle.drg_triples.proofs.Steps.{counting_is_equation}
use Rattle.drg_triples.proofs.counting.equation_with.Goals as goal

pub invariant_of-result : goal.invariant_of-result
invariant_of-result c =
    let right = c.args.right in
    let same : to_z w128 (of_z w128 right.value) ≡ right.value = to_z-of_z w128 _ (search rules) in
    let P : ℤ → Type 0 = λ z. is_equation (record { terms = c.in_ok-terms_over.field-0; right = z }) ≡ true in
    subst P (sym same) (counting_is_equation c.args.d c.args.counted.vertex c.args.counted.x c.args.counted.y _ right.value c.in_ok-terms_over.ensures right.in_range)
