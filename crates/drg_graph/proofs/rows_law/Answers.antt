use Rattle.drg_graph.proofs.RowLaws.{rows_law}
use Rattle.drg_graph.proofs.rows_law.Goals as goal

pub returns : goal.returns
returns c = rows_law
