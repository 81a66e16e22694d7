use Rattle.std.proofs.Common.{◌≡◌, ◌+◌, ◌≤◌, length}
use Rattle.std.specs.Option.{option_map}
use Rattle.drg_derivation.specs.Reading.{integers_of}
use Rattle.drg_derivation.proofs.integers.count_integers.Given as goal

abbrev pub invariant-numbers : goal.invariant-numbers
invariant-numbers l = record {
  small : l.count + length l.rest ≤ length l.text;
  read : option_map (λ zs. l.count + length zs) (integers_of l.rest) ≡ option_map length (integers_of l.text);
}

abbrev pub decreases-numbers : goal.decreases-numbers
decreases-numbers l = length l.rest
