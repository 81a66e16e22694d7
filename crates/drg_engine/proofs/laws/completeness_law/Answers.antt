use Rattle.drg_engine.proofs.Completeness.{decided}
use Rattle.drg_engine.proofs.laws.completeness_law.Goals as goal

pub returns : goal.returns
returns c = λ a tests verdict array none each right.
    decided c.frame_laws.ensures a tests c.built_law.ensures.fails array none each verdict right
