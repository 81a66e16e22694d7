use Rattle.std.proofs.Common.{◌≡◌, ◌++◌, take, drop}
use Rattle.drg_derivation.specs.WordReading.{word_part, rest_part}
use Rattle.drg_derivation.proofs.word_at.split_word.Given as goal

abbrev pub invariant-bytes : goal.invariant-bytes
invariant-bytes l = record {
  at : l.len ≡ l.byte-index;
  word : word_part l.text ≡ take l.len l.text ++ word_part (drop l.len l.text);
  rest : rest_part l.text ≡ rest_part (drop l.len l.text);
}
