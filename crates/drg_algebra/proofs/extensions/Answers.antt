use Rattle.drg_algebra.specs.Fields.{field_of}
use Rattle.drg_algebra.specs.Kinds.{ring_of}
use Rattle.drg_algebra.proofs.Pairs.{pair_laws_hold}
use Rattle.drg_algebra.proofs.RootValues.{pairs_are_field_holds}
use Rattle.drg_algebra.proofs.extensions.Goals as goal

pub returns : goal.returns
returns c = record {
  laws = λ k s t. pair_laws_hold (ring_of k) s t;
  field = λ k. pairs_are_field_holds (field_of k);
}
