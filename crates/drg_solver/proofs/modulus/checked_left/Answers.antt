use Rattle.std.proofs.Common.{◌≡◌, ap, ◌∙◌}
use Rattle.drg_rooms.proofs.TermSteps.{fixed_goes_on}
use Rattle.drg_solver.proofs.modulus.checked_left.Goals as goal

pub terms-preserved : goal.terms-preserved
terms-preserved c =
    let same : c.as_slice-term-items.result.now ≡ c.args.equation.now.terms = c.as_slice-term-items.ensures ∙ ap (λ e. e.terms) c.equation.view_is in
    let within = rw same at c.terms-test.true in
    let fits = rw same at c.in_ok-left.ensures.0 in
    let value = rw same at c.in_ok-left.ensures.1 in
    fixed_goes_on c.d-d.result c.as_slice-bounds.result.now _ c.args.equation.now.terms _ c.in_ok-left.left.value c.terms.term-index _ within c.terms.invariant fits value
