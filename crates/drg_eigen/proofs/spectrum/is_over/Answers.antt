use Rattle.std.proofs.Common.{◌≡◌, rules, ap, ap₂, sym, subst, ◌∙◌, eqb, IsTrue}
use Rattle.std.proofs.lemmas.Int.{to_z-of_z}
use mir.Syntax.{w32}
use Rattle.drg_eigen.specs.Factor.{Factor, quadratic, discriminant}
use Rattle.drg_eigen.specs.Found.{IsReal}
use Rattle.drg_eigen.specs.Spectrum.{IsOver}
use Rattle.drg_eigen.specs.Step.{factor_of}
use Rattle.drg_eigen.proofs.RootFields.{over_test}
use Rattle.drg_eigen.proofs.spectrum.is_over.Goals as goal

pub returns-in-Quadratic : goal.returns-in-Quadratic
returns-in-Quadratic c =
    let d = c.split_discriminant.ensures in
    let factor : factor_of c.args.divisor ≡ quadratic c.in-Quadratic.s c.in-Quadratic.t = ap factor_of c.in-Quadratic.is in
    let real = subst IsReal factor c.requires.divisor in
    let parts = ap₂ discriminant (to_z-of_z w32 c.in-Quadratic.s (search rules)) (to_z-of_z w32 c.in-Quadratic.t (search rules)) in
    subst (λ (e : Factor). (IsTrue (eqb c.split_discriminant.result.1 c.args.root) → IsOver c.args.root e) × (IsOver c.args.root e → IsTrue (eqb c.split_discriminant.result.1 c.args.root)))
    (sym factor)
    (over_test c.split_discriminant.result.0 c.split_discriminant.result.1 c.args.root c.in-Quadratic.s c.in-Quadratic.t (d.product ∙ parts) real.2 d.squarefree c.requires.root)
