use Rattle.std.proofs.Common.{◌≡◌, ◌≤◌, ◌<◌, rules, to_z, of_z, arith, length, pos, ℤ, add-one}
use Rattle.std.specs.Prelude.{slice_index_or}
use mir.Syntax.{w128}
use mir.Facts.{to_z-of_z}
use Rattle.drg_linear.specs.Rooms.{Bounds}
use Rattle.drg_solver.proofs.Solved.{lows_are, lows_made, lows_on}
use Rattle.drg_solver.proofs.finding.low_bounds.Goals as goal

pub bounds-preserved : goal.bounds-preserved
bounds-preserved c =
    let outside : Bounds = (pos 0, pos 0) in
    let value : ℤ = (slice_index_or c.as_slice-bounds-items.result.now c.bounds.bounds-index outside).0 in
    let is : to_z w128 (of_z w128 value) ≡ value = to_z-of_z {w = w128} (search rules) in
    let within : c.bounds.bounds-index < length c.args.room.now.bounds = rw c.as_slice-bounds-items.ensures.value at c.bounds-test.true in
    rw (c.in_ok-push.ensures.items, is, c.as_slice-bounds-items.ensures.value, add-one) (lows_on c.args.room.now.bounds c.bounds.values.items c.bounds.bounds-index outside c.bounds.invariant within)

pub make-requires : goal.make-requires
make-requires c =
    let out : length c.args.room.now.bounds ≤ c.bounds.bounds-index = (let f = rw c.as_slice-bounds-items.ensures.value at c.bounds-test.false in omega (arith, f)) in
    rw c.d.ensures.value (lows_are c.args.room.now c.bounds.values.items c.as_slice-bounds-items.ensures.room (lows_made c.args.room.now.bounds c.bounds.values.items c.bounds.bounds-index c.bounds.invariant out))
