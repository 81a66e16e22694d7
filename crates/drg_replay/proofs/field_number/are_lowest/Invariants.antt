use Rattle.std.proofs.Common.{◌≡◌}
use Rattle.drg_replay.specs.FieldNumbers.{are_lowest}
use Rattle.drg_replay.proofs.field_number.are_lowest.Given as goal

abbrev pub invariant-fractions : goal.invariant-fractions
invariant-fractions l = l.all ≡ are_lowest l.numbers l.k
