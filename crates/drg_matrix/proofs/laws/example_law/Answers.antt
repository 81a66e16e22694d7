use Rattle.drg_matrix.proofs.Complete.{complete_frame, complete_krein_numbers}
use Rattle.drg_matrix.proofs.laws.example_law.Goals as goal

pub returns-clause-frame : goal.returns-clause-frame
returns-clause-frame g c = λ root h. complete_frame (g.met.F.Field.laws root h)

pub returns-clause-krein : goal.returns-clause-krein
returns-clause-krein g c = λ root h. complete_krein_numbers (g.met.F.Field.laws root h)
