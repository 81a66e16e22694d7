use Rattle.std.proofs.Common.{◌≡◌, ℤ, rules, arith, ap, ap₂, ◌∙◌, pos, ◌≤◌, ◌*◌, ◌*ℤ◌}
use Rattle.std.proofs.lemmas.Int.{to_z-of_z, to_z_pos}
use mir.Val.{to_z}
use mir.Syntax.{w32}
use Rattle.drg_eigen.specs.Factor.{discriminant}
use Rattle.drg_eigen.proofs.RootFields.{multiple_is, multiple_small, root_above}
use Rattle.drg_eigen.proofs.spectrum.multiple.Goals as goal

pub returns-clause-square : goal.returns-clause-square
returns-clause-square c =
    let s = c.args.s in
    let t = c.args.t in
    let d = c.split_discriminant.ensures in
    let f = c.split_discriminant.result.0 in
    let r = c.split_discriminant.result.1 in
    let product : pos (c.split_discriminant.result.0 * c.split_discriminant.result.0 * c.split_discriminant.result.1) ≡ discriminant c.args.s c.args.t =
    d.product ∙ ap₂ discriminant (to_z-of_z w32 s (search rules)) (to_z-of_z w32 t (search rules)) in
    let real = c.requires in
    let small : c.split_discriminant.result.0 ≤ 65536 = multiple_small f r s t product (root_above s t f r product real.2 d.squarefree) real.1.0 real.1.1 in
    let number : to_z w32 c.split_discriminant.result.0 ≡ pos c.split_discriminant.result.0 = to_z_pos w32 f (omega (arith, small)) in
    λ root free over. ap (λ (z : ℤ). (z *ℤ z) *ℤ pos root) number ∙ multiple_is f r root s t product real.2 d.squarefree free over

pub returns-clause-small : goal.returns-clause-small
returns-clause-small c =
    let s = c.args.s in
    let t = c.args.t in
    let d = c.split_discriminant.ensures in
    let f = c.split_discriminant.result.0 in
    let r = c.split_discriminant.result.1 in
    let product : pos (c.split_discriminant.result.0 * c.split_discriminant.result.0 * c.split_discriminant.result.1) ≡ discriminant c.args.s c.args.t =
    d.product ∙ ap₂ discriminant (to_z-of_z w32 s (search rules)) (to_z-of_z w32 t (search rules)) in
    let real = c.requires in
    let small : c.split_discriminant.result.0 ≤ 65536 = multiple_small f r s t product (root_above s t f r product real.2 d.squarefree) real.1.0 real.1.1 in
    let number : to_z w32 c.split_discriminant.result.0 ≡ pos c.split_discriminant.result.0 = to_z_pos w32 f (omega (arith, small)) in
    rw number small
