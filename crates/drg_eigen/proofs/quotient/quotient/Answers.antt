use Rattle.std.proofs.Common.{◌≡◌, ◌<◌, ◌+◌, rules, arith, refl, ap, sym, ◌∙◌, subst, List, [], ◌∷◌, ◌++◌, ℤ, pos, length, drop, get_or}
use Rattle.std.specs.Prelude.{◌*ℤ◌}
use Rattle.std.specs.List.{AllByRecursion}
use Rattle.std.proofs.lemmas.Int.{to_z-of_z}
use mir.Val.{to_z, of_z}
use mir.Syntax.{w128}
use Rattle.drg_whole.specs.Range.{InRange}
use Rattle.drg_eigen.specs.Factor.{times_factor}
use Rattle.drg_eigen.specs.Step.{factor_of}
use Rattle.drg_eigen.proofs.Coefficients.{all_more}
use Rattle.drg_eigen.proofs.Quotients.{Reached, step, stops, stops_fits, stops_wide, end_not_over, end_over, complete, sound, all_shortened, at_place, at_end}
use Rattle.drg_eigen.proofs.quotient.quotient.Goals as goal

pub returns-in_default-clause-fault : goal.returns-in_default-clause-fault
returns-in_default-clause-fault c =
    let f = c.args.coefficients.now in
    let inside : c.coefficients.coefficient-index < length c.args.coefficients.now = omega (arith, c.coefficients-test.true) in
    let e : c.new.result.value ≡ get_or c.args.coefficients.now c.coefficients.coefficient-index (pos 0) = c.new.ensures ∙ to_z-of_z w128 _ (search rules) in (
      c.node.ensures,
      λ fits. stops_wide (factor_of c.args.divisor) f c.coefficients.quotient.items _ _ _ _
          (at_place (factor_of c.args.divisor) f c.coefficients.quotient.items _ _ c.coefficients.coefficient-index c.coefficients.invariant.reached _ inside e)
          c.in_default.ensures (fits c.requires.divisor),
    )

pub returns-in_default-whole_quotient-clause-none : goal.returns-in_default-whole_quotient-clause-none
returns-in_default-whole_quotient-clause-none c =
    let f = c.args.coefficients.now in
    let inside : c.coefficients.coefficient-index < length c.args.coefficients.now = omega (arith, c.coefficients-test.true) in
    let e : c.new.result.value ≡ get_or c.args.coefficients.now c.coefficients.coefficient-index (pos 0) = c.new.ensures ∙ to_z-of_z w128 _ (search rules) in
    λ d.
    let ends = complete (factor_of c.args.divisor) f d in
    stops (factor_of c.args.divisor) f c.coefficients.quotient.items _ _ _ _
    (at_place (factor_of c.args.divisor) f c.coefficients.quotient.items _ _ c.coefficients.coefficient-index c.coefficients.invariant.reached _ inside e)
    (λ u h. c.in_default-whole_quotient.ensures.none u (ap (λ (z : ℤ). z *ℤ u) c.constant.ensures ∙ (h ∙ sym c.in-Ok.ensures.0))) ends.0 ends.1

pub returns-in_default-whole_quotient-clause-fits : goal.returns-in_default-whole_quotient-clause-fits
returns-in_default-whole_quotient-clause-fits c =
    let f = c.args.coefficients.now in
    let inside : c.coefficients.coefficient-index < length c.args.coefficients.now = omega (arith, c.coefficients-test.true) in
    let e : c.new.result.value ≡ get_or c.args.coefficients.now c.coefficients.coefficient-index (pos 0) = c.new.ensures ∙ to_z-of_z w128 _ (search rules) in
    λ ne. stops_fits (factor_of c.args.divisor) f c.coefficients.quotient.items _ _ _ _
    (at_place (factor_of c.args.divisor) f c.coefficients.quotient.items _ _ c.coefficients.coefficient-index c.coefficients.invariant.reached _ inside e)
    c.in-Ok.ensures.1
    (λ u h. c.in_default-whole_quotient.ensures.none u (ap (λ (z : ℤ). z *ℤ u) c.constant.ensures ∙ (h ∙ sym c.in-Ok.ensures.0)))

pub coefficients-preserved : goal.coefficients-preserved
coefficients-preserved c =
    let f = c.args.coefficients.now in
    let inside : c.coefficients.coefficient-index < length c.args.coefficients.now = omega (arith, c.coefficients-test.true) in
    let e : c.new.result.value ≡ get_or c.args.coefficients.now c.coefficients.coefficient-index (pos 0) = c.new.ensures ∙ to_z-of_z w128 _ (search rules) in
    let next = c.in-Some.next in
    let x : to_z w128 (of_z w128 c.in-Some.next.value) ≡ c.in-Some.next.value = to_z-of_z w128 c.in-Some.next.value (search rules) in
    let items = c.in_ok-push.ensures.items ∙ ap (λ (z : ℤ). c.coefficients.quotient.items ++ z ∷ []) x in
    record {
      reached = subst (λ (l : List ℤ). Reached (factor_of c.args.divisor) f l c.coefficients.last.value c.in-Some.next.value (drop (c.coefficients.coefficient-index + 1) f)) (sym items)
          (step (factor_of c.args.divisor) f c.coefficients.quotient.items _ _ _ _
          (at_place (factor_of c.args.divisor) f c.coefficients.quotient.items _ _ c.coefficients.coefficient-index c.coefficients.invariant.reached _ inside e)
          next.value c.requires.divisor c.in-Ok.ensures.1
          (ap (λ (z : ℤ). z *ℤ next.value) (sym c.constant.ensures) ∙ (c.in-Some.ensures.some ∙ c.in-Ok.ensures.0)));
      in_range = subst (AllByRecursion InRange) (sym items) (all_more InRange c.coefficients.quotient.items next.value c.coefficients.invariant.in_range next.in_range);
    }

pub returns-then-not-is_over-clause-none : goal.returns-then-not-is_over-clause-none
returns-then-not-is_over-clause-none c =
    let f = c.args.coefficients.now in
    let us = c.coefficients.quotient.items in
    λ d.
    let ends = complete (factor_of c.args.divisor) f d in
    end_not_over (factor_of c.args.divisor) f us _ _
    (at_end (factor_of c.args.divisor) f us _ _ c.coefficients.coefficient-index c.coefficients.invariant.reached c.coefficients-test.false)
    (λ over. (let h = c.if-not-is_over.ensures.1 over in cc)) ends.0 ends.1

pub returns-clause-some : goal.returns-clause-some
returns-clause-some c =
    let f = c.args.coefficients.now in
    let us = c.coefficients.quotient.items in
    let ends = end_over (factor_of c.args.divisor) f us _ _
    (at_end (factor_of c.args.divisor) f us _ _ c.coefficients.coefficient-index c.coefficients.invariant.reached c.coefficients-test.false)
    (c.if-not-is_over.ensures.0 refl) in (
      ap (times_factor (factor_of c.args.divisor)) c.shorten.ensures ∙ sound (factor_of c.args.divisor) f us c.requires.poly.monic ends,
      subst (AllByRecursion InRange) (sym c.shorten.ensures) (all_shortened (factor_of c.args.divisor) InRange us c.coefficients.invariant.in_range),
    )
