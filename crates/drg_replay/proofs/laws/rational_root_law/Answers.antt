use Rattle.drg_replay.proofs.RationalRootLaws.{rational_root}
use Rattle.drg_replay.proofs.laws.rational_root_law.Goals as goal

pub returns : goal.returns
returns c = rational_root
