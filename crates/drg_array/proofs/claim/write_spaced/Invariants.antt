use Rattle.std.proofs.Common.{◌≡◌, ◌++◌, take}
use Rattle.drg_array.specs.Claims.{spaced}
use Rattle.drg_array.proofs.claim.write_spaced.Given as goal

abbrev pub invariant-numbers : goal.invariant-numbers
invariant-numbers l = l.out.items ≡ l.initial.out.items ++ spaced (take l.number-index l.numbers)
