use Rattle.std.proofs.Common.{length}
use Rattle.drg_replay.proofs.sizes.+check_sizes_from.Given as goal

abbrev pub decreases-check_sizes_from : goal.decreases-check_sizes_from
decreases-check_sizes_from l = length l.values.now
