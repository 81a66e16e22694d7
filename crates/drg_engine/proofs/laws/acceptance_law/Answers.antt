use Rattle.drg_engine.proofs.Evidence.{accepted}
use Rattle.drg_engine.proofs.laws.acceptance_law.Goals as goal

pub returns : goal.returns
returns c = accepted c.counts_law.ensures.accepted c.mult_law.ensures.accepted
