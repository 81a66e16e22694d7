use Rattle.std.proofs.Common.{length}
use Rattle.drg_replay.proofs.rows.+check_balances.Given as goal

abbrev pub decreases-check_balances : goal.decreases-check_balances
decreases-check_balances l = length l.values.now
