use Rattle.drg_engine.proofs.OneReport.{one_report}
use Rattle.drg_engine.proofs.laws.one_report_law.Goals as goal

pub returns : goal.returns
returns c = λ a tests verdict other array right also.
    one_report c.frame_laws.ensures c.frame_law.ensures.one c.frame_law.ensures.lines c.claim_law.ensures.order c.built_law.ensures.fails
    c.fault_law.ensures.one c.fault_law.ensures.none a tests array verdict other right also
