use Rattle.drg_graph.proofs.NumberLaws.{counting_claims_law}
use Rattle.drg_graph.proofs.counting_claims_law.Goals as goal

pub returns : goal.returns
returns c = counting_claims_law
