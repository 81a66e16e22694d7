use Rattle.drg_quadratic.proofs.SmallRoots.{two_is_root}
use Rattle.drg_matrix.proofs.tests.over_two.Goals as goal

pub make-requires-3-clause-root : goal.make-requires-3-clause-root
make-requires-3-clause-root c = two_is_root
