use Rattle.drg_replay.proofs.RootLaws.{root_found}
use Rattle.drg_replay.proofs.laws.root_law.Goals as goal

pub returns : goal.returns
returns c = root_found
