use Rattle.drg_array.proofs.TestLaws.{all_in_order, one_name, one_number}
use Rattle.drg_array.proofs.ClaimLaws.{built_are_replayed}
use Rattle.drg_array.proofs.laws.test_law.Goals as goal

pub returns-clause-all : goal.returns-clause-all
returns-clause-all c = all_in_order

pub returns-clause-one_name : goal.returns-clause-one_name
returns-clause-one_name c = one_name

pub returns-clause-one_number : goal.returns-clause-one_number
returns-clause-one_number c = one_number

pub returns-clause-both : goal.returns-clause-both
returns-clause-both c = built_are_replayed
