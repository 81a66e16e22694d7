use Rattle.drg_eigen.proofs.OneCause.{one_fault, no_fault}
use Rattle.drg_eigen.proofs.laws.fault_law.Goals as goal

pub returns : goal.returns
returns c = record { one = one_fault; none = no_fault }
