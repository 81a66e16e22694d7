use Rattle.std.proofs.Common.{length}
use Rattle.drg_eigen.proofs.spectrum.+not_over.Given as goal

abbrev pub decreases-not_over : goal.decreases-not_over
decreases-not_over l = length l.found.now
