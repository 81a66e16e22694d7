use Rattle.std.proofs.Common.{◌≡◌, ◌∷◌, rules, ap, sym, subst, ◌∙◌, List, ℤ, pos, get_or}
use Rattle.std.proofs.lemmas.Int.{to_z-of_z}
use mir.Val.{to_z, of_z}
use mir.Syntax.{w128}
use Rattle.drg_eigen.specs.Monic.{IsMonic}
use Rattle.drg_eigen.proofs.Quotients.{by_x, begins}
use Rattle.drg_eigen.proofs.quotient.divided_by_x.Goals as goal

pub returns-then-coefficients-ne0 : goal.returns-then-coefficients-ne0
returns-then-coefficients-ne0 c =
    λ d. c.if-coefficients-ne0.true
    (ap (λ (l : List ℤ). of_z w128 (get_or l 0 (pos 0))) (c.coefficients-coefficients.ensures.items ∙ sym (sym (by_x d.0) ∙ d.1)))

pub returns : goal.returns
returns c =
    let f = c.coefficients-coefficients.result.now in
    let head : get_or c.coefficients-coefficients.result.now 0 (pos 0) ≡ pos 0 =
    sym (to_z-of_z w128 (get_or c.coefficients-coefficients.result.now 0 (pos 0)) (search rules)) ∙ ap (to_z w128) c.if-coefficients-ne0.false in
    by_x c.of_coefficients.result
    ∙ (ap (λ (l : List ℤ). pos 0 ∷ l) (c.of_coefficients.ensures ∙ c.in_ok-quotient.ensures.items)
    ∙ (begins f (subst IsMonic (sym c.coefficients-coefficients.ensures.items) c.coefficients-coefficients.ensures.poly.monic) head
    ∙ c.coefficients-coefficients.ensures.items))
