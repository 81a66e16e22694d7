use Rattle.drg_rooms.proofs.OneStep.{closed_holds_none}
use Rattle.drg_rooms.proofs.laws.one_step_law.Goals as goal

pub returns : goal.returns
returns c = closed_holds_none
