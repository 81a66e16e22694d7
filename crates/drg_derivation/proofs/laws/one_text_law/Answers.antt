use Rattle.drg_derivation.proofs.TextFacts.{one-text}
use Rattle.drg_derivation.proofs.laws.one_text_law.Goals as goal

pub returns : goal.returns
returns c = one-text
