use Rattle.std.proofs.Common.{◌≡◌, take}
use Rattle.arrayvec.specs.ArrayVec.{array_vec_len}
use Rattle.drg_derivation.specs.Words.{array_numbers}
use Rattle.drg_derivation.proofs.write.array_numbers.Given as goal

abbrev pub invariant-numbers : goal.invariant-numbers
invariant-numbers l = record {
  len : array_vec_len l.numbers ≡ l.i;
  items : l.numbers.items ≡ take l.i (array_numbers l.array);
}
