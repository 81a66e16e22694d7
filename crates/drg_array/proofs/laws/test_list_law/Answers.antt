use Rattle.drg_array.proofs.TestTexts.{one_list}
use Rattle.drg_array.proofs.laws.test_list_law.Goals as goal

pub returns : goal.returns
returns c = one_list
