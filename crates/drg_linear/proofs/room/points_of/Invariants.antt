use Rattle.std.specs.Prelude.{◌-◌, ◌^◌}
use Rattle.drg_linear.proofs.Points.{PointsRemain}
use Rattle.drg_linear.proofs.room.points_of.Given as goal

abbrev pub invariant-bounds : goal.invariant-bounds
invariant-bounds l = PointsRemain (2 ^ 128 - 1) l.bounds l.points l.pair-index
