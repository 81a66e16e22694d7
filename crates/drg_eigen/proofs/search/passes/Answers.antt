use Rattle.std.proofs.Common.{◌≡◌, rules, ap₂, ◌∙◌, sym, subst, ℤ}
use Rattle.std.proofs.lemmas.Int.{to_z-of_z}
use mir.Val.{to_z, of_z}
use mir.Syntax.{w32, w64}
use Rattle.drg_eigen.specs.Factor.{discriminant}
use Rattle.drg_eigen.specs.Values.{Allow}
use Rattle.drg_eigen.proofs.Discriminants.{real, not_real, above_by_test, below_by_test}
use Rattle.drg_eigen.proofs.search.passes.Goals as goal

pub returns-then-discriminant-le0 : goal.returns-then-discriminant-le0
returns-then-discriminant-le0 c =
    let d : to_z w64 (of_z w64 c.discriminant.result) ≡ discriminant c.args.s c.args.t =
    to_z-of_z w64 c.discriminant.result (search rules) ∙ (c.discriminant.ensures ∙ ap₂ discriminant (to_z-of_z w32 c.args.s (search rules)) (to_z-of_z w32 c.args.t (search rules))) in
    (λ h. absurd (let no = h in cc), λ h. absurd (not_real c.args.s c.args.t _ d (below_by_test _ c.if-discriminant-le0.true) h.1.0))

pub returns-then-allow : goal.returns-then-allow
returns-then-allow c =
    let v = c.args.values.now in
    let es : to_z w32 (of_z w32 c.args.s) ≡ c.args.s = to_z-of_z w32 c.args.s (search rules) in
    let et : to_z w32 (of_z w32 c.args.t) ≡ c.args.t = to_z-of_z w32 c.args.t (search rules) in
    let d : to_z w64 (of_z w64 c.discriminant.result) ≡ discriminant c.args.s c.args.t =
    to_z-of_z w64 c.discriminant.result (search rules) ∙ (c.discriminant.ensures ∙ ap₂ discriminant es et) in
    let same = ap₂ discriminant es et in
    let allowed = subst (λ (s : ℤ). Allow v s c.args.t) es (subst (λ (t : ℤ). Allow v (to_z w32 (of_z w32 c.args.s)) t) et (c.allow.ensures.0 c.if-allow.true)) in (
      λ h. (λ m e. c.is_irreducible.ensures.0 h m (e ∙ sym same), (real c.args.s c.args.t _ d (above_by_test _ c.if-discriminant-le0.false), allowed)),
      λ h. c.is_irreducible.ensures.1 (λ m e. h.0 m (e ∙ same)),
    )

pub returns-else-allow : goal.returns-else-allow
returns-else-allow c =
    let v = c.args.values.now in
    let es : to_z w32 (of_z w32 c.args.s) ≡ c.args.s = to_z-of_z w32 c.args.s (search rules) in
    let et : to_z w32 (of_z w32 c.args.t) ≡ c.args.t = to_z-of_z w32 c.args.t (search rules) in
    let allows = λ (a : Allow v c.args.s c.args.t). subst (λ (s : ℤ). Allow v s (to_z w32 (of_z w32 c.args.t))) (sym es) (subst (λ (t : ℤ). Allow v c.args.s t) (sym et) a) in
    (λ h. absurd (let no = c.if-allow.false in let yes = h in cc), λ h. c.allow.ensures.1 (allows h.1.1))
