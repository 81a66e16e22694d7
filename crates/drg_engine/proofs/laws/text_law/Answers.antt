use Rattle.drg_engine.proofs.Evidence.{has_text}
use Rattle.drg_engine.proofs.laws.text_law.Goals as goal

pub returns : goal.returns
returns c = has_text c.counts_law.ensures.text c.mult_law.ensures.text
