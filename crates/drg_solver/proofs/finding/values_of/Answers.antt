use Rattle.std.proofs.Common.{◌≡◌, length, arith, ◌∙◌}
use Rattle.drg_solver.proofs.finding.values_of.Goals as goal

pub make-requires : goal.make-requires
make-requires c =
    let room = c.as_slice-place-end.ensures.room in
    let all = rw c.as_slice-place-end.ensures.value at c.places-test.false in
    let within = rw c.as_slice-place-end.ensures.value at c.places.auto.place-end in
    let each = room.each in
    let made : length c.places.values.items ≡ length c.args.room.now.bounds = (let counted = c.places.invariant in omega (arith, counted, all, within)) in
    rw c.d.ensures.value (record { d = room.d; each = made ∙ each })
