use Rattle.std.proofs.Common.{◌≡◌, ◌++◌}
use Rattle.drg_derivation.proofs.evidence.listed.Given as goal

abbrev pub invariant-numbers : goal.invariant-numbers
invariant-numbers l = l.list.items ++ l.number-iterator ≡ l.fn.numbers
