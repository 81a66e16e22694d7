use Rattle.std.proofs.Common.{◌≡◌, take}
use Rattle.std.specs.Prelude.{map}
use Rattle.drg_linear.specs.Rooms.{Bounds}
use Rattle.drg_solver.proofs.finding.low_bounds.Given as goal

abbrev pub invariant-bounds : goal.invariant-bounds
invariant-bounds l = l.values.items ≡ take l.bounds-index (map (λ (b : Bounds). b.0) l.room.bounds)
