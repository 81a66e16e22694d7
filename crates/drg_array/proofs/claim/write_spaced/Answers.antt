use Rattle.drg_array.proofs.Appends.{spaced-stops, spaced-stops_inside}
use Rattle.drg_array.proofs.claim.write_spaced.Goals as goal

pub returns-in_err-push-clause-err : goal.returns-in_err-push-clause-err
returns-in_err-push-clause-err c =
    spaced-stops _ _ _ _ _ c.numbers.number-index c.numbers-test.true c.numbers.invariant c.in_err-push.ensures.items

pub returns-in_err-extend_from_slice-clause-err : goal.returns-in_err-extend_from_slice-clause-err
returns-in_err-extend_from_slice-clause-err c =
    spaced-stops_inside _ _ _ _ _ _ c.numbers.number-index c.numbers-test.true c.numbers.invariant c.in_ok-push.ensures.items c.in_err-extend_from_slice.ensures.items
