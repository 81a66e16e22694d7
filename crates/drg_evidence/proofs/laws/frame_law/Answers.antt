use Rattle.drg_evidence.proofs.OneFrame.{one_list, one_values}
use Rattle.drg_evidence.proofs.laws.frame_law.Goals as goal

pub returns : goal.returns
returns c =
    let split = c.split_law.ensures.one in
    record { one = one_values split c.one_frame.ensures; lines = one_list split c.one_frame.ensures }
