use Rattle.drg_quadratic.specs.Quadratic.{value_of}
use Rattle.drg_replay.proofs.ValueLaws.{same_test}
use Rattle.drg_replay.proofs.field_number.is_same.Goals as goal

pub returns : goal.returns
returns c = same_test _ (value_of c.args.left) (value_of c.args.right) c.same.ensures
