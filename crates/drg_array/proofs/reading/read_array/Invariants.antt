use Rattle.std.proofs.Common.{◌≡◌, ◌+◌, drop}
use Rattle.drg_array.specs.Reading.{reading, IsSound, start}
use Rattle.drg_array.specs.Reader.{state_of}
use Rattle.drg_array.proofs.reading.read_array.Given as goal

abbrev pub invariant-bytes : goal.invariant-bytes
invariant-bytes l = record {
  sound : IsSound (state_of l.reader);
  read : reading (l.place + 1) (state_of l.reader) (drop l.place l.bytes) ≡ reading 1 start l.bytes;
}
