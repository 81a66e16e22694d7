use Rattle.drg_census.proofs.ClassicalLaws.{none_is_missed, one_pair}
use Rattle.drg_census.proofs.laws.classical_law.Goals as goal

pub returns-clause-one : goal.returns-clause-one
returns-clause-one c = one_pair

pub returns-clause-none_missed : goal.returns-clause-none_missed
returns-clause-none_missed c = none_is_missed
