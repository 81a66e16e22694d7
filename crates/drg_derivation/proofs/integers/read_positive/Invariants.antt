use Rattle.std.proofs.Common.{◌≡◌, ◌≤◌, length}
use Rattle.drg_derivation.specs.Integers.{greatest}
use Rattle.drg_derivation.specs.Reading.{positive_at, digits_from}
use Rattle.drg_derivation.proofs.integers.read_positive.Given as goal

abbrev pub invariant-digits : goal.invariant-digits
invariant-digits l = record {
  small : l.value ≤ greatest;
  read : digits_from l.value l.rest ≡ positive_at l.bytes;
}

abbrev pub decreases-digits : goal.decreases-digits
decreases-digits l = length l.rest
