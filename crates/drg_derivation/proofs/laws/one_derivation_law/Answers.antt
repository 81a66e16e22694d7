use Rattle.drg_derivation.proofs.TextFacts.{one-beginning, one-derivation}
use Rattle.drg_derivation.proofs.laws.one_derivation_law.Goals as goal

pub returns : goal.returns
returns c = record { text = one-derivation; front = one-beginning }
