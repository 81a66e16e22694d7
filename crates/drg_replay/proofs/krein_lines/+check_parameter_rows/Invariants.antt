use Rattle.std.proofs.Common.{length}
use Rattle.drg_replay.proofs.krein_lines.+check_parameter_rows.Given as goal

abbrev pub decreases-check_parameter_rows : goal.decreases-check_parameter_rows
decreases-check_parameter_rows l = length l.rows.now
