use Rattle.drg_evidence.proofs.MultAcceptance.{mult_accepted}
use Rattle.drg_evidence.proofs.MultTexts.{mult_has_text}
use Rattle.drg_evidence.proofs.laws.mult_law.Goals as goal

pub returns : goal.returns
returns c =
    let split = c.split_law.ensures.one in
    record { accepted = mult_accepted split c.one_frame.ensures; text = mult_has_text split }
