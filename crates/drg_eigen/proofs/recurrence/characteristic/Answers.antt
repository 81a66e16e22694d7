use Rattle.std.proofs.Common.{◌≡◌, ◌∙◌, suc, arith, ap, subst, sym}
use Rattle.std.specs.List.{AllByRecursion}
use Rattle.drg_whole.specs.Range.{InRange}
use Rattle.drg_array.specs.Entries.{diameter}
use Rattle.drg_eigen.specs.Characteristic.{polynomial}
use Rattle.drg_eigen.specs.Monic.{IsMonic}
use Rattle.drg_eigen.specs.Simple.{IsSimple}
use Rattle.drg_eigen.proofs.ArrayFactors.{characteristic_is_simple}
use Rattle.drg_eigen.proofs.Coefficients.{is_monic}
use Rattle.drg_eigen.proofs.recurrence.characteristic.Goals as goal

pub next_polynomial-requires-clause-before_in_range : goal.next_polynomial-requires-clause-before_in_range
next_polynomial-requires-clause-before_in_range c = subst (AllByRecursion InRange) (sym c.deref.ensures.value) c.polynomials.invariant.before_in_range

pub next_polynomial-requires-clause-last_in_range : goal.next_polynomial-requires-clause-last_in_range
next_polynomial-requires-clause-last_in_range c = subst (AllByRecursion InRange) (sym c.deref-in-polynomials.ensures.value) c.polynomials.invariant.in_range

pub of_coefficients-requires : goal.of_coefficients-requires
of_coefficients-requires c =
    let a = c.args.array.now in
    record {
      monic = subst IsMonic (sym c.polynomials.invariant.last) (is_monic a (suc c.polynomials.j));
      in_range = c.polynomials.invariant.in_range;
    }

pub returns-clause-simple : goal.returns-clause-simple
returns-clause-simple c =
    let a = c.args.array.now in
    let j : c.polynomials.j ≡ diameter c.args.array.now = omega (arith, c.polynomials-test.false, c.polynomials.auto.j-end, c.d-j-end.ensures.value) in
    let is = c.of_coefficients.ensures ∙ c.polynomials.invariant.last ∙ ap (λ n. polynomial a (suc n)) j in
    subst IsSimple (sym is) (characteristic_is_simple a c.d-j-end.ensures.array)
