use Rattle.std.proofs.Common.{◌≡◌, take}
use Rattle.arrayvec.specs.ArrayVec.{array_vec_len}
use Rattle.drg_derivation.proofs.line.numbered.Given as goal

abbrev pub invariant-leading : goal.invariant-leading
invariant-leading l = record {
  len : array_vec_len l.few ≡ l.number-index;
  items : l.few.items ≡ take l.number-index l.leading;
}
