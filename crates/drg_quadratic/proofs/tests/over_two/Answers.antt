use Rattle.drg_quadratic.proofs.SmallRoots.{two_is_root}
use Rattle.drg_quadratic.proofs.tests.over_two.Goals as goal

pub make-requires-clause-root : goal.make-requires-clause-root
make-requires-clause-root c = two_is_root
