use Rattle.drg_krein.proofs.FaultLaws.{one_fault_holds, no_fault_where_all_fit, faults_dont_fit}
use Rattle.drg_krein.proofs.laws.fault_law.Goals as goal

pub returns-clause-one : goal.returns-clause-one
returns-clause-one g c = λ root. one_fault_holds (g.F.Field.operations root)

pub returns-clause-none : goal.returns-clause-none
returns-clause-none g c = λ root. no_fault_where_all_fit (g.F.Field.operations root)

pub returns-clause-cause : goal.returns-clause-cause
returns-clause-cause g c = λ root. faults_dont_fit (g.F.Field.operations root)
