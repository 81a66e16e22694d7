use Rattle.drg_graph.proofs.Witness.{one_array_law}
use Rattle.drg_graph.proofs.one_array_law.Goals as goal

pub returns : goal.returns
returns c = one_array_law
