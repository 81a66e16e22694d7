use Rattle.std.proofs.Common.{sym, subst}
use Rattle.std.specs.Prelude.{IfSome}
use Rattle.drg_eigen.specs.Monic.{IsMonic}
use Rattle.drg_eigen.specs.Step.{IsDividedInRange, factor_of}
use Rattle.drg_eigen.proofs.Quotients.{monic_quotient}
use Rattle.drg_eigen.proofs.quotient.divided_by.Goals as goal

pub of_coefficients-requires : goal.of_coefficients-requires
of_coefficients-requires c =
    let f = c.coefficients.result.now in
    let q = c.in-Some.quotient.items in
    let here : IsDividedInRange (factor_of c.args.divisor) c.coefficients.result.now c.in-Some.quotient.items =
    subst (λ o. IfSome o (λ q. IsDividedInRange (factor_of c.args.divisor) c.coefficients.result.now q.items)) c.in-Some.is c.in_ok-quotient.ensures.some in
    record { monic = monic_quotient (factor_of c.args.divisor) q f here.0 (subst IsMonic (sym c.coefficients.ensures.items) c.coefficients.ensures.poly.monic); in_range = here.1 }
