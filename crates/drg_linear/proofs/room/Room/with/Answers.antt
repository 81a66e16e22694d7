use Rattle.drg_linear.proofs.RoomChanges.{room_kept}
use Rattle.drg_linear.proofs.room.Room.with.Goals as goal

pub invariant_of-result : goal.invariant_of-result
invariant_of-result c =
    rw c.put.ensures
    (room_kept (record { d = c.self.inside.d; bounds = c.self.inside.bounds.items }) c.args.place c.args.bounds c.self.invariant c.requires.low c.requires.order)
