use Rattle.std.proofs.Common.{◌≡◌, rules, ap₂, ◌∙◌, sym, subst, ℤ, pos}
use Rattle.std.specs.Prelude.{◌+ℤ◌, ◌-ℤ◌}
use Rattle.std.proofs.lemmas.Int.{to_z-of_z}
use mir.Syntax.{w32}
use Rattle.drg_eigen.specs.Values.{DividesValue}
use Rattle.drg_eigen.proofs.values.Values.allow.Goals as goal

pub returns-then-divides : goal.returns-then-divides
returns-then-divides c =
    let v = c.args.self.now in
    let one : c.quadratic_at_one.result.value ≡ (pos 1 -ℤ c.args.s) +ℤ c.args.t =
    c.quadratic_at_one.ensures ∙ ap₂ (λ (s t : ℤ). (pos 1 -ℤ s) +ℤ t) (to_z-of_z w32 c.args.s (search rules)) (to_z-of_z w32 c.args.t (search rules)) in
    let minus_one : c.quadratic_at_minus_one.result.value ≡ (pos 1 +ℤ c.args.s) +ℤ c.args.t =
    c.quadratic_at_minus_one.ensures ∙ ap₂ (λ (s t : ℤ). (pos 1 +ℤ s) +ℤ t) (to_z-of_z w32 c.args.s (search rules)) (to_z-of_z w32 c.args.t (search rules)) in (
      λ h. (
        subst (λ (z : ℤ). DividesValue z v.at_one) one (c.divides.ensures.0 c.if-divides.true),
        subst (λ (z : ℤ). DividesValue z v.at_minus_one) minus_one (c.divides-then-divides.ensures.0 h),
      ),
      λ a. c.divides-then-divides.ensures.1 (subst (λ (z : ℤ). DividesValue z v.at_minus_one) (sym minus_one) a.1),
    )

pub returns-else-divides : goal.returns-else-divides
returns-else-divides c =
    let v = c.args.self.now in
    let one : c.quadratic_at_one.result.value ≡ (pos 1 -ℤ c.args.s) +ℤ c.args.t =
    c.quadratic_at_one.ensures ∙ ap₂ (λ (s t : ℤ). (pos 1 -ℤ s) +ℤ t) (to_z-of_z w32 c.args.s (search rules)) (to_z-of_z w32 c.args.t (search rules)) in (
      λ h. absurd (let no = c.if-divides.false in cc),
      λ a. c.divides.ensures.1 (subst (λ (z : ℤ). DividesValue z v.at_one) (sym one) a.0),
    )
