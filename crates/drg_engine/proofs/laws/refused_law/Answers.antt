use Rattle.drg_engine.proofs.Completeness.{stays_refused}
use Rattle.drg_engine.proofs.laws.refused_law.Goals as goal

pub returns : goal.returns
returns c = λ a tests t other verdict array none unfailed runs asks has right.
    stays_refused c.frame_laws.ensures a tests none unfailed t runs asks other has verdict right
