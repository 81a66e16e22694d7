use Rattle.std.proofs.Common.{◌≡◌, take}
use Rattle.arrayvec.specs.ArrayVec.{array_vec_len}
use Rattle.drg_array.proofs.claim.few.Given as goal

abbrev pub invariant-indices : goal.invariant-indices
invariant-indices l = record {
  len : array_vec_len l.all ≡ l.index-index;
  items : l.all.items ≡ take l.index-index l.indices;
}
