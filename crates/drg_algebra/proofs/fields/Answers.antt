use Rattle.drg_algebra.specs.Fields.{field_of}
use Rattle.drg_algebra.proofs.Quotients.{field_laws_hold}
use Rattle.drg_algebra.proofs.fields.Goals as goal

pub returns : goal.returns
returns c = λ k. field_laws_hold (field_of k)
