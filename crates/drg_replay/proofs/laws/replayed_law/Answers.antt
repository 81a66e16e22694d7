use Rattle.drg_replay.proofs.ReplayedLaws.{replayed}
use Rattle.drg_replay.proofs.laws.replayed_law.Goals as goal

pub returns : goal.returns
returns c = replayed
