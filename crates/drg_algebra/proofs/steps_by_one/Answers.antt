use Rattle.drg_algebra.proofs.Steps.{three-terms}
use Rattle.drg_algebra.proofs.steps_by_one.Goals as goal

pub returns : goal.returns
returns c = three-terms
