use Rattle.std.proofs.Common.{◌<◌, arith, ap, ◌∙◌, List, ℤ, length, map}
use Rattle.drg_eigen.specs.Factor.{polynomial_of}
use Rattle.drg_eigen.specs.Step.{factors_of}
use Rattle.drg_eigen.proofs.FactorLists.{polynomials_more, all_taken}
use Rattle.drg_eigen.proofs.factors.Factors.of.Goals as goal

pub divisors-preserved : goal.divisors-preserved
divisors-preserved c =
    let inside : c.divisors.divisor-index < length c.args.found.now = omega (arith, c.divisors-test.true) in
    ◌∙◌ {A = List (List ℤ)} c.in_ok-push.ensures.items
    (polynomials_more c.args.found.now c.divisors.divisor-index _ inside c.divisors.polys.items c.in_ok-poly.field-0 c.divisors.invariant c.in_ok-poly.ensures)

pub returns : goal.returns
returns c = c.divisors.invariant ∙ ap (λ ds. map polynomial_of (factors_of ds)) (all_taken c.args.found.now c.divisors.divisor-index c.divisors-test.false)
