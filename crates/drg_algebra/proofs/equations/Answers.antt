use Rattle.drg_algebra.specs.Kinds.{ring_of}
use Rattle.drg_algebra.specs.Ring.{equal}
use Rattle.drg_algebra.proofs.equations.Goals as goal

pub returns : goal.returns
returns c = λ k env e f same. equal (ring_of k).laws env e f same
