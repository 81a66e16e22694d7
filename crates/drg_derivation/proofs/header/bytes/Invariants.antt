use Rattle.std.proofs.Common.{◌≡◌, ◌+◌, ◌≤◌, length}
use Rattle.arrayvec.specs.ArrayVec.{array_vec_len}
use Rattle.drg_derivation.specs.Header.{naturals, naturals_after}
use Rattle.drg_derivation.proofs.header.bytes.Given as goal

abbrev pub invariant-numbers : goal.invariant-numbers
invariant-numbers l = record {
  len : array_vec_len l.found + length l.number-iterator ≤ length l.line.numbers;
  read : naturals_after l.found.items (naturals 255 l.number-iterator) ≡ naturals 255 l.line.numbers;
}
