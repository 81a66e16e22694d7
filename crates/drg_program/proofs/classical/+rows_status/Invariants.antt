use Rattle.std.proofs.Common.{length}
use Rattle.drg_program.proofs.classical.+rows_status.Given as goal

abbrev pub decreases-rows_status : goal.decreases-rows_status
decreases-rows_status l = length l.rows.now
