use Rattle.std.proofs.Common.{ap, sym, ◌∙◌}
use Rattle.drg_algebra.specs.Pairs.{pair_path}
use Rattle.drg_quadratic.specs.Values.{Value}
use Rattle.drg_quadratic.specs.Laws.{is_its_parts, norm_is_nil}
use Rattle.drg_quadratic.proofs.laws.zero_by_parts.Goals as goal

pub returns-clause-parts : goal.returns-clause-parts
returns-clause-parts c = λ root h a b o.
    let z : Value = record { a = a; b = b } in
    let e = is_its_parts root z o in (
      λ q. (ap (λ (x : Value). x.a) (e ∙ q), ap (λ (x : Value). x.b) (e ∙ q)),
      λ p. sym e ∙ pair_path _ _ p.0 p.1,
    )

pub returns-clause-norm : goal.returns-clause-norm
returns-clause-norm c = norm_is_nil
