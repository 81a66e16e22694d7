use Rattle.std.proofs.Common.{pos}
use Rattle.std.specs.Prelude.{◌-ℤ◌}
use Rattle.drg_eigen.proofs.FallingNumbers.{AreDown}
use Rattle.drg_eigen.proofs.products.products.Given as goal

abbrev pub invariant-numbers : goal.invariant-numbers
invariant-numbers l = AreDown l.number l.most (pos l.limit) (pos l.limit -ℤ pos l.steps) l.products.items
