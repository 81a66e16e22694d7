use Rattle.drg_quadratic.proofs.SmallRoots.{two_is_root}
use Rattle.drg_quadratic.proofs.tests.by_parts.Goals as goal

pub of_parts-requires-clause-root : goal.of_parts-requires-clause-root
of_parts-requires-clause-root c = two_is_root
