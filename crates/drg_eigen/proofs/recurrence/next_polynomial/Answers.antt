use Rattle.std.proofs.Common.{◌≡◌, ℕ, ℤ, ◌≤◌, ◌++◌, List, [], ◌∷◌, rules, arith, suc, ◌+◌, ap, ap₂, subst, sym, ◌∙◌, true, inl, inr}
use Rattle.std.specs.List.{AllByRecursion}
use Rattle.std.proofs.lemmas.Int.{to_z-of_z}
use mir.Val.{to_z, of_z}
use mir.Syntax.{w128}
use Rattle.drg_eigen.specs.Fits.{IsFirstWide, next_coefficient}
use Rattle.drg_whole.specs.Range.{InRange}
use Rattle.drg_eigen.specs.Work.{next_fits}
use Rattle.drg_eigen.proofs.Coefficients.{tabulate, one_more, all_more, polynomial_is}
use Rattle.drg_eigen.proofs.Ranges.{value_in, two_cases, one_fits_more, first_wide, all_fit}
use Rattle.drg_eigen.proofs.recurrence.next_polynomial.Goals as goal

pub returns-in_default-clause-fault : goal.returns-in_default-clause-fault
returns-in_default-clause-fault c =
    let a = c.args.array.now in
    let two : suc (suc c.args.j) ≡ c.args.j + 2 = omega arith in
    let within : c.coefficients.t ≤ suc (suc c.args.j) = omega (arith, c.coefficients-test.true) in
    rw c.wide.ensures (subst (IsFirstWide a) two
    (first_wide a c.args.j c.coefficients.t c.args.before.now c.args.last.now c.requires.before c.requires.last c.requires.inside c.requires.reached within c.in_default.ensures))

pub coefficients-preserved : goal.coefficients-preserved
coefficients-preserved c =
    let a = c.args.array.now in
    let g = c.args.before.now in
    let f = c.args.last.now in
    let made = next_coefficient a c.args.j g f in
    let one : suc c.coefficients.t ≡ c.coefficients.t + 1 = omega arith in
    let items = c.in_ok-push.ensures.items in
    let x : to_z w128 (of_z w128 c.in-Ok.coefficient.value) ≡ next_coefficient c.args.array.now c.args.j c.args.before.now c.args.last.now c.coefficients.t =
    to_z-of_z w128 c.in-Ok.coefficient.value (search rules) ∙ c.in-Ok.ensures.1 in
    record {
      items = items ∙ (ap₂ (λ (l : List ℤ) (z : ℤ). l ++ z ∷ []) c.coefficients.invariant.items x ∙ (one_more c.coefficients.t made ∙ ap (λ (n : ℕ). tabulate n made) one));
      in_range = subst (AllByRecursion InRange) (sym items)
          (all_more InRange _ _ c.coefficients.invariant.in_range (subst InRange (sym x) (value_in a c.args.j g f c.coefficients.t c.in-Ok.ensures.0)));
      fits = λ t less. elim (two_cases t c.coefficients.t (omega (arith, less))) [
        | inl same ↦ subst (λ (n : ℕ). next_fits a c.args.j g f n ≡ true) (sym same) c.in-Ok.ensures.0
        | inr below ↦ c.coefficients.invariant.fits t below
      ];
    }

pub returns-clause-next : goal.returns-clause-next
returns-clause-next c =
    let a = c.args.array.now in
    let all : c.coefficients.t ≡ suc (suc (suc c.args.j)) = omega (arith, c.coefficients-test.false, c.coefficients.auto.t-end) in
    subst (λ (n : ℕ). c.coefficients.next.items ≡ tabulate n (next_coefficient c.args.array.now c.args.j c.args.before.now c.args.last.now)) all c.coefficients.invariant.items
    ∙ (ap₂ (λ (g f : List ℤ). tabulate (suc (suc (suc c.args.j))) (next_coefficient c.args.array.now c.args.j g f)) c.requires.before c.requires.last
    ∙ polynomial_is a c.args.j)

pub returns-clause-reached : goal.returns-clause-reached
returns-clause-reached c =
    let a = c.args.array.now in
    let all : c.coefficients.t ≡ suc (suc (suc c.args.j)) = omega (arith, c.coefficients-test.false, c.coefficients.auto.t-end) in
    one_fits_more a (suc (suc c.args.j)) c.requires.reached
    (all_fit a c.args.j c.args.before.now c.args.last.now c.requires.before c.requires.last (λ t within. c.coefficients.invariant.fits t (omega (arith, within, all))))
