use Rattle.drg_algebra.specs.Fields.{field_of}
use Rattle.drg_algebra.proofs.Tables.{dependence_holds}
use Rattle.drg_algebra.proofs.dependence.Goals as goal

pub returns : goal.returns
returns c = λ k. dependence_holds (field_of k)
