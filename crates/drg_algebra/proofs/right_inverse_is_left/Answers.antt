use Rattle.drg_algebra.specs.Fields.{field_of}
use Rattle.drg_algebra.proofs.Tables.{right_inverse_is_left_holds}
use Rattle.drg_algebra.proofs.right_inverse_is_left.Goals as goal

pub returns : goal.returns
returns c = λ k. right_inverse_is_left_holds (field_of k)
