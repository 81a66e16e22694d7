use Rattle.std.proofs.Common.{subst, Option}
use Rattle.std.specs.Prelude.{List, ℤ}
use Rattle.std.proofs.lemmas.Result.{err_from_is_err_and}
use Rattle.drg_eigen.specs.Division.{IsDivided}
use Rattle.drg_eigen.specs.Step.{factor_of}
use Rattle.drg_eigen.proofs.Trials.{divisor_passed, divisor_taken, divisor_wide}
use Rattle.drg_eigen.proofs.search.Search.try_divisor.Goals as goal

pub returns-in_err-quotient-clause-fault : goal.returns-in_err-quotient-clause-fault
returns-in_err-quotient-clause-fault c =
    let p = err_from_is_err_and c.from_residual.result c.from_residual.ensures.1 in
    rw (p.1, p.2) (divisor_wide (factor_of c.args.divisor) c.args.self.now.left _ c.in_err-quotient.ensures.fault)

pub returns-in_ok-push-clause-tried : goal.returns-in_ok-push-clause-tried
returns-in_ok-push-clause-tried c =
    let a = c.args.self.now in
    let divided = subst (λ (o : Option (List ℤ)). IsDivided (factor_of c.args.divisor) c.args.self.now.left o) c.in-Some.is c.in_ok-quotient.ensures.divided in
    divisor_taken c.args.divisor a c.in_ok-quotient.ensures.fits _ c.requires.simple divided c.in_ok-push.ensures.items

pub returns-in_default-clause-tried : goal.returns-in_default-clause-tried
returns-in_default-clause-tried c =
    let divided = subst (λ (o : Option (List ℤ)). IsDivided (factor_of c.args.divisor) c.args.self.now.left o) c.in_default.is c.in_ok-quotient.ensures.divided in
    divisor_passed c.args.divisor c.args.self.now c.in_ok-quotient.ensures.fits divided
