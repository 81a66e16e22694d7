use Rattle.drg_replay.proofs.KreinKnown.{known_krein}
use Rattle.drg_replay.proofs.laws.known_krein_law.Goals as goal

pub returns : goal.returns
returns c = known_krein
