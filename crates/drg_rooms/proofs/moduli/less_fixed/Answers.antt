use Rattle.drg_rooms.proofs.TermSteps.{fixed_goes_on}
use Rattle.drg_rooms.proofs.moduli.less_fixed.Goals as goal

pub terms-preserved : goal.terms-preserved
terms-preserved c =
    fixed_goes_on c.args.d c.args.room.now _ c.args.terms.now _ c.in_ok-left.left.value c.terms.term-index _ c.terms-test.true c.terms.invariant c.in_ok-left.ensures.0 c.in_ok-left.ensures.1
