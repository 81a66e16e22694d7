use Rattle.std.proofs.Common.{arith}
use Rattle.std.specs.Prelude.{◌-◌, ◌^◌}
use Rattle.drg_linear.proofs.Points.{points_on, points_all}
use Rattle.drg_linear.proofs.room.points_of.Goals as goal

pub bounds-preserved : goal.bounds-preserved
bounds-preserved c =
    rw (c.saturating_mul-points.ensures, c.values_within.ensures)
    (points_on (2 ^ 128 - 1) c.args.bounds.now c.bounds.points c.bounds.pair-index _ (omega arith) c.bounds-test.true c.bounds.invariant)

pub returns : goal.returns
returns c = points_all (2 ^ 128 - 1) c.args.bounds.now c.bounds.points c.bounds.pair-index c.bounds-test.false c.bounds.invariant
