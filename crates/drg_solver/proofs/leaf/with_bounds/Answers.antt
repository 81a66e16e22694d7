use Rattle.drg_linear.proofs.RoomChanges.{room_kept}
use Rattle.drg_solver.proofs.leaf.with_bounds.Goals as goal

pub make-requires : goal.make-requires
make-requires c =
    rw (c.put.ensures, c.in_ok-all.ensures.items, c.as_slice.ensures.value, c.d.ensures.value)
    (room_kept c.args.room.now c.args.place c.args.bounds c.d.ensures.room c.requires.low c.requires.order)
