use Rattle.std.proofs.Common.{rules, refl, ap₂, sym, subst, ◌∙◌, ◌∷◌}
use Rattle.std.proofs.lemmas.Int.{to_z-of_z}
use mir.Syntax.{w32}
use Rattle.drg_eigen.specs.Factor.{Factor, quadratic, discriminant}
use Rattle.drg_eigen.specs.Spectrum.{AreTwoFields}
use Rattle.drg_eigen.specs.Step.{factor_of, factors_of}
use Rattle.drg_eigen.proofs.RootFields.{common_of_first, first_other}
use Rattle.drg_eigen.proofs.spectrum.root_of_all.Goals as goal

pub returns-in-None : goal.returns-in-None
returns-in-None c =
    let s = c.args.s in
    let t = c.args.t in
    let d = c.split_discriminant-root.ensures in
    let f = c.split_discriminant-root.result.0 in
    let root = c.split_discriminant-root.result.1 in
    let parts = ap₂ discriminant (to_z-of_z w32 s (search rules)) (to_z-of_z w32 t (search rules)) in
    common_of_first s t f root (d.product ∙ parts) c.requires.first.2 d.squarefree c.requires.first.0 (factors_of c.args.rest.now) c.in-None.ensures

pub returns-in-Some : goal.returns-in-Some
returns-in-Some c =
    let s = c.args.s in
    let t = c.args.t in
    let d = c.split_discriminant-root.ensures in
    let f = c.split_discriminant-root.result.0 in
    let root = c.split_discriminant-root.result.1 in
    let s_is = to_z-of_z w32 s (search rules) in
    let t_is = to_z-of_z w32 t (search rules) in
    let other = first_other s t f root (d.product ∙ ap₂ discriminant s_is t_is) c.requires.first.2 d.squarefree (factors_of c.args.rest.now) (factor_of c.in-Some.other)
    c.requires.rest c.in-Some.ensures in
    subst (λ (e : Factor). AreTwoFields (quadratic c.args.s c.args.t ∷ factors_of c.args.rest.now) e (factor_of c.in-Some.other)) (sym (ap₂ quadratic s_is t_is)) (refl, other)
