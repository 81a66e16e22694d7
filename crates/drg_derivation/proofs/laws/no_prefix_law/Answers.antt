use Rattle.drg_derivation.proofs.TextFacts.{no-prefix}
use Rattle.drg_derivation.proofs.laws.no_prefix_law.Goals as goal

pub returns : goal.returns
returns c = no-prefix
