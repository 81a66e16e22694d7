use Rattle.std.proofs.Common.{length}
use Rattle.drg_eigen.proofs.spectrum.+common_root.Given as goal

abbrev pub decreases-common_root : goal.decreases-common_root
decreases-common_root l = length l.found.now
