use Rattle.std.proofs.Common.{rules, ◌≡◌, to_z, of_z}
use Rattle.std.specs.Int.{w128}
use Rattle.std.proofs.lemmas.Int.{to_z-of_z}
use Rattle.drg_replay.proofs.RoomSteps.{room_more}
use Rattle.drg_replay.proofs.systems.starting_room.Goals as goal

pub places-preserved : goal.places-preserved
places-preserved c =
    let old = c.places.invariant in
    let pushed = c.in_ok-push.ensures.items in
    let same : to_z w128 (of_z w128 c.high_bound.result) ≡ c.high_bound.result = to_z-of_z w128 _ (search rules) in
    let bound = c.high_bound.ensures in
    let at = c.unknown_at.ensures in
    let more = room_more c.args.d c.args.counts.now.rows c.args.ty c.places.place in
    cc
