use Rattle.drg_engine.proofs.Completeness.{stays_wide}
use Rattle.drg_engine.proofs.laws.wide_frame_law.Goals as goal

pub returns : goal.returns
returns c = λ a tests t node verdict array none unfailed runs asks wide right.
    stays_wide c.frame_laws.ensures a tests none unfailed t runs asks node wide verdict right
