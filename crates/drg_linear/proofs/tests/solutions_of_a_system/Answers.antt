use Rattle.std.proofs.Common.{refl, arith}
use Rattle.std.proofs.lemmas.Int.{ints}
use Rattle.drg_linear.specs.Unknowns.{place}
use Rattle.drg_linear.proofs.tests.solutions_of_a_system.Goals as goal

pub push-requires : goal.push-requires
unfolding place
push-requires g c =
    let d = c.in_ok-room.ensures.d in
    let bounds = c.in_ok-room.ensures.bounds in
    let made = c.make-system.ensures in
    let terms = c.in_ok-terms.ensures.items in
    record {
      unknowns = rw (made, d, c.new.ensures, terms) refl;
      fits = rw (made, d, bounds, c.new.ensures, terms) (omega arith);
    }

pub narrow-narrowed-requires-clause-low : goal.narrow-narrowed-requires-clause-low
unfolding place
narrow-narrowed-requires-clause-low g c =
    let d = c.in_ok-room.ensures.d in
    let bounds = c.in_ok-room.ensures.bounds in
    rw (c.in_ok-push.ensures, c.make-system.ensures, d, bounds) (omega (arith, ints))

pub narrow-narrowed-requires-clause-high : goal.narrow-narrowed-requires-clause-high
unfolding place
narrow-narrowed-requires-clause-high g c =
    let d = c.in_ok-room.ensures.d in
    let bounds = c.in_ok-room.ensures.bounds in
    rw (c.in_ok-push.ensures, c.make-system.ensures, d, bounds) (omega (arith, ints))
