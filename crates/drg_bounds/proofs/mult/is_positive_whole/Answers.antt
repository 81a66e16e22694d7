use Rattle.std.proofs.Common.{◌≡◌, subst, sym, ◌∙◌, rules, pos, to_z, of_z}
use Rattle.std.specs.Int.{w128}
use Rattle.std.specs.Prelude.{◌<ℤ◌}
use Rattle.std.proofs.lemmas.Int.{to_z-of_z}
use Rattle.drg_bounds.proofs.FirstFailures.{same_number}
use Rattle.drg_bounds.proofs.mult.is_positive_whole.Goals as goal

pub returns-in-Some : goal.returns-in-Some
returns-in-Some g c =
    let f = g.F.Field in
    let laws = g.met.F.Field.laws (f.root_of c.args.value) (g.met.F.Field.has_root c.args.value) in
    let number = c.in-Some.number in
    let kept : to_z w128 (of_z w128 number) ≡ number = to_z-of_z w128 number (search rules) in
    let told = c.is_positive.ensures in (
      λ t. (number, subst (λ n. pos 0 <ℤ n) kept (told.0 t), c.in-Some.ensures.whole),
      λ p. told.1 (subst (λ n. pos 0 <ℤ n) (same_number laws p.0 number (sym p.2 ∙ c.in-Some.ensures.whole) ∙ sym kept) p.1),
    )
