use Rattle.drg_derivation.proofs.WordLaws.{name_named-by}
use Rattle.drg_derivation.proofs.word_at.name_named.Goals as goal

pub returns : goal.returns
returns c = name_named-by _ _ c.read.ensures.some c.read.ensures.none
