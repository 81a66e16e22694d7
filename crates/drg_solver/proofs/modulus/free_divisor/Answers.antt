use Rattle.drg_solver.proofs.Terms.{range_at}
use Rattle.drg_solver.proofs.modulus.free_divisor.Goals as goal

pub divisor_with-g-requires-clause-term : goal.divisor_with-g-requires-clause-term
divisor_with-g-requires-clause-term c =
    rw c.as_slice-term-items.ensures
    (range_at (record { terms = c.equation.inside.terms; right = c.equation.inside.right }) c.terms.term-index _ c.equation.invariant (rw c.as_slice-term-items.ensures at c.terms-test.true))
