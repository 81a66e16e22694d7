use Rattle.drg_evidence.proofs.Acceptance.{counts_accepted}
use Rattle.drg_evidence.proofs.Texts.{counts_have_text}
use Rattle.drg_evidence.proofs.laws.counts_law.Goals as goal

pub returns : goal.returns
returns c = record { accepted = counts_accepted; text = counts_have_text }
