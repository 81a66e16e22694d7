use Rattle.drg_array.proofs.FaultLaws.{one_array, one_fault, either, not_both}
use Rattle.drg_array.proofs.TextLaws.{canonical}
use Rattle.drg_array.proofs.laws.text_law.Goals as goal

pub returns : goal.returns
returns c = record { one_array = one_array; one_fault = one_fault; either = either; not_both = not_both; canonical = canonical }
