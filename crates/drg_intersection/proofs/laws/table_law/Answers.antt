use Rattle.drg_intersection.proofs.FaultLaws.{one_table}
use Rattle.drg_intersection.proofs.laws.table_law.Goals as goal

pub returns : goal.returns
returns c = one_table
