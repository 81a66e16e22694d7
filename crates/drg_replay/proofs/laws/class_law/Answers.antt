use Rattle.drg_replay.proofs.Soundness.{class_is}
use Rattle.drg_replay.proofs.laws.class_law.Goals as goal

pub returns : goal.returns
returns c = class_is
