use Rattle.drg_graph.proofs.Witness.{cube_law}
use Rattle.drg_graph.proofs.cube_law.Goals as goal

pub returns : goal.returns
returns c = cube_law
