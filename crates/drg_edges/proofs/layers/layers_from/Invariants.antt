use Rattle.std.proofs.Common.{◌-◌, length}
use Rattle.drg_edges.proofs.LayerByLayer.{AreReached}
use Rattle.drg_edges.proofs.layers.layers_from.Given as goal

abbrev pub invariant-layers : goal.invariant-layers
invariant-layers l = AreReached l.graph l.rows l.x l.sets.items l.layer l.seen l.distances.items (length l.sets.items)

abbrev pub decreases-layers : goal.decreases-layers
decreases-layers l = length l.rows - length l.sets.items
