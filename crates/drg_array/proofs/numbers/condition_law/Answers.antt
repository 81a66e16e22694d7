use Rattle.drg_array.proofs.ConditionProofs.{fails, holds}
use Rattle.drg_array.proofs.numbers.condition_law.Goals as goal

pub returns : goal.returns
returns c = record { fails = fails; holds = holds }
