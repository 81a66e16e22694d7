use Rattle.std.proofs.Common.{◌≡◌, rules, to_z, of_z, arith, pos, ◌+ℤ◌}
use mir.Syntax.{w128}
use mir.Facts.{to_z-of_z}
use Rattle.drg_linear.specs.Unknowns.{place}
use Rattle.drg_linear.proofs.Holding.{low_at}
use Rattle.drg_solver.proofs.Division.{division, next_not_negative}
use Rattle.drg_solver.proofs.leaf.divide.Goals as goal

pub with_bounds-requires-clause-low : goal.with_bounds-requires-clause-low
with_bounds-requires-clause-low c =
    let is : to_z w128 (of_z w128 c.bounds_at-low.result.0) ≡ c.bounds_at-low.result.0 = to_z-of_z {w = w128} (search rules) in
    rw (is, c.bounds_at-low.ensures, c.as_slice.ensures.value) (low_at c.args.leaf.room.bounds c.place-place.result c.d.ensures.room.ordered)

pub with_bounds-requires-2-clause-low : goal.with_bounds-requires-2-clause-low
with_bounds-requires-2-clause-low c =
    let v : to_z w128 (of_z w128 c.args.at) ≡ c.args.at = to_z-of_z {w = w128} (search rules) in
    let s : to_z w128 (of_z w128 (c.args.at +ℤ pos 1)) ≡ c.args.at +ℤ pos 1 = to_z-of_z {w = w128} (search rules) in
    let low = low_at c.args.leaf.room.bounds (place c.args.leaf.room.d c.args.unknown) c.d.ensures.room.ordered in
    rw (v, s) (next_not_negative _ c.args.at low c.requires.divides.low)

pub returns : goal.returns
returns c =
    let v : to_z w128 (of_z w128 c.args.at) ≡ c.args.at = to_z-of_z {w = w128} (search rules) in
    let s : to_z w128 (of_z w128 (c.args.at +ℤ pos 1)) ≡ c.args.at +ℤ pos 1 = to_z-of_z {w = w128} (search rules) in
    let l : to_z w128 (of_z w128 c.bounds_at-low.result.0) ≡ c.bounds_at-low.result.0 = to_z-of_z {w = w128} (search rules) in
    let h : to_z w128 (of_z w128 c.bounds_at-low.result.1) ≡ c.bounds_at-low.result.1 = to_z-of_z {w = w128} (search rules) in
    let n = c.len.ensures in
    let up = rw (l, v, c.bounds_at-low.ensures, c.as_slice.ensures.value, c.place-place.ensures, c.d.ensures.value) at c.in_ok-up_to.ensures in
    let above = rw (v, s, h, c.bounds_at-low.ensures, c.as_slice.ensures.value, c.place-place.ensures, c.d.ensures.value) at c.in_ok-above.ensures in
    division c.args.leaf c.args.unknown c.args.at c.args.splits.now.items c.push.new.self.items c.args.waiting.now.items c.push-2.new.self.items c.push-3.new.self.items _ c.in_ok-up_to.up_to c.in_ok-above.above
    (rw v at c.in_ok-push.ensures.items) c.in_ok-push-2.ensures.items c.in_ok-push-3.ensures.items (omega (arith, n, c.args.splits.now.ok.0)) above up
