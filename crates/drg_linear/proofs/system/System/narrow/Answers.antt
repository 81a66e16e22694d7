use Rattle.std.proofs.Common.{◌≡◌, ◌≤ℤ◌, rules, to_z, of_z}
use mir.Syntax.{w128}
use mir.Facts.{to_z-of_z}
use Rattle.drg_linear.specs.Unknowns.{place}
use Rattle.drg_linear.specs.Rooms.{bounds_at}
use Rattle.drg_linear.proofs.RoomChanges.{not_negative, system_kept}
use Rattle.drg_linear.proofs.system.System.narrow.Goals as goal

pub with-requires-clause-low : goal.with-requires-clause-low
with-requires-clause-low c =
    let is : to_z w128 (of_z w128 c.args.low) ≡ c.args.low = to_z-of_z {w = w128} (search rules) in
    let low : (bounds_at c.self.inside.room.bounds (place c.self.inside.room.d c.args.x)).0 ≤ℤ c.args.low = rw (← c.self.view_is) at c.requires.low in
    rw is (not_negative c.self.inside.room (place c.self.inside.room.d c.args.x) c.args.low c.d.ensures.room low)

pub invariant_of-result : goal.invariant_of-result
invariant_of-result c =
    let low_is : to_z w128 (of_z w128 c.args.low) ≡ c.args.low = to_z-of_z {w = w128} (search rules) in
    let high_is : to_z w128 (of_z w128 c.args.high) ≡ c.args.high = to_z-of_z {w = w128} (search rules) in
    let y = place c.self.inside.room.d c.args.x in
    let low : (bounds_at c.self.inside.room.bounds y).0 ≤ℤ c.args.low = rw (← c.self.view_is) at c.requires.low in
    let high : c.args.high ≤ℤ (bounds_at c.self.inside.room.bounds y).1 = rw (← c.self.view_is) at c.requires.high in
    rw (c.with.ensures, c.place-place.ensures, c.d.ensures.value, low_is, high_is)
    (system_kept (record { room = c.self.inside.room; names = c.self.inside.names.items; equations = c.self.inside.equations.items }) y (c.args.low, c.args.high) c.self.invariant (not_negative c.self.inside.room y c.args.low c.d.ensures.room low) c.requires.order high)
