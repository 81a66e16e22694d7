use Rattle.drg_quadratic.proofs.SmallRoots.{five_is_root}
use Rattle.drg_quadratic.proofs.tests.eigenvalue_over_five.Goals as goal

pub make-requires-clause-root : goal.make-requires-clause-root
make-requires-clause-root c = five_is_root
