use Rattle.drg_graph.proofs.Witness.{petersen_law}
use Rattle.drg_graph.proofs.petersen_law.Goals as goal

pub returns : goal.returns
returns c = petersen_law
