use Rattle.drg_quadratic.proofs.SmallRoots.{five_is_root}
use Rattle.drg_quadratic.proofs.tests.half_over_five.Goals as goal

pub of_halves-requires-clause-root : goal.of_halves-requires-clause-root
of_halves-requires-clause-root c = five_is_root
