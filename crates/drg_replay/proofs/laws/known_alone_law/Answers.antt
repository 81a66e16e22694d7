use Rattle.drg_replay.proofs.AloneLaws.{known_alone}
use Rattle.drg_replay.proofs.laws.known_alone_law.Goals as goal

pub returns : goal.returns
returns c = known_alone
