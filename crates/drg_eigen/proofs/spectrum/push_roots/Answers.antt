use Rattle.std.proofs.Common.{◌≡◌, rules, arith, ap, ap₂, sym, subst, ◌∙◌, ℤ, pos}
use Rattle.std.specs.Prelude.{◌-ℤ◌, ◌*ℤ◌, neg_ℤ}
use Rattle.std.proofs.lemmas.Int.{ints, fits_signed_from_abs, to_z-of_z}
use mir.Val.{to_z, of_z}
use mir.Syntax.{w32}
use Rattle.drg_eigen.specs.Factor.{Factor, quadratic, discriminant}
use Rattle.drg_eigen.specs.Found.{IsReal}
use Rattle.drg_eigen.specs.Roots.{HasMore}
use Rattle.drg_eigen.specs.Spectrum.{IsOver}
use Rattle.drg_eigen.specs.Step.{factor_of}
use Rattle.drg_eigen.proofs.RootFields.{squarefree_root}
use Rattle.drg_eigen.proofs.RootLists.{two_more}
use Rattle.drg_eigen.proofs.spectrum.push_roots.Goals as goal

turned : (f : ℤ) → pos 0 -ℤ f ≡ neg_ℤ f
turned f = omega (arith, ints)

pub returns-in_ok-push-in-Quadratic-2 : goal.returns-in_ok-push-in-Quadratic-2
returns-in_ok-push-in-Quadratic-2 c =
    let root = c.args.root in
    let s = c.in-Quadratic.s in
    let t = c.in-Quadratic.t in
    let f = c.multiple-f.result in
    let m = c.multiple-f.ensures in
    let factor : factor_of c.args.divisor ≡ quadratic c.in-Quadratic.s c.in-Quadratic.t = ap factor_of c.in-Quadratic.is in
    let over = subst (IsOver root) factor c.requires.over in
    let real = subst IsReal factor c.requires.divisor in
    let s_is : to_z w32 (of_z w32 c.in-Quadratic.s) ≡ c.in-Quadratic.s = to_z-of_z w32 s (search rules) in
    let t_is : to_z w32 (of_z w32 c.in-Quadratic.t) ≡ c.in-Quadratic.t = to_z-of_z w32 t (search rules) in
    let f_is : to_z w32 (of_z w32 c.multiple-f.result) ≡ c.multiple-f.result = to_z-of_z w32 f (fits_signed_from_abs w32 f (omega (arith, m.small))) in
    let minus_is : to_z w32 (of_z w32 (pos 0 -ℤ to_z w32 (of_z w32 c.multiple-f.result))) ≡ neg_ℤ c.multiple-f.result =
    ap (λ (z : ℤ). to_z w32 (of_z w32 (pos 0 -ℤ z))) f_is ∙ to_z-of_z w32 (pos 0 -ℤ f) (fits_signed_from_abs w32 _ (omega (arith, ints, m.small))) ∙ turned f in
    let parts = ap₂ discriminant s_is t_is in
    let first = c.half_root.ensures in
    let second = c.half_root-in-Quadratic.ensures in
    let square = m.square root (squarefree_root root s t over real.2 c.requires.root) (subst (λ (d : ℤ). (y : ℤ) × ((y *ℤ y) *ℤ pos root ≡ d)) (sym parts) over) ∙ parts in
    subst (λ (e : Factor). HasMore c.args.root e c.args.roots.now.items c.push-in-Quadratic-2.new.self.items) (sym factor)
    (two_more root s t f c.half_root.result c.half_root-in-Quadratic.result c.args.roots.now.items c.push-in-Quadratic.new.self.items c.push-in-Quadratic-2.new.self.items
    first.over (first.s ∙ s_is) (first.f ∙ f_is) second.over (second.s ∙ s_is) (second.f ∙ minus_is) square m.some c.in_ok-push-in-Quadratic.ensures.items c.in_ok-push-in-Quadratic-2.ensures.items)
