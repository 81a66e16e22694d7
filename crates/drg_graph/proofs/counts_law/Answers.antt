use Rattle.drg_graph.proofs.RowLaws.{counts_law}
use Rattle.drg_graph.proofs.counts_law.Goals as goal

pub returns : goal.returns
returns c = counts_law
