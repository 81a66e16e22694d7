use Rattle.std.proofs.Common.{pos}
use Rattle.std.specs.Prelude.{◌-ℤ◌}
use Rattle.drg_eigen.specs.Found.{HasTried, IsAnything}
use Rattle.drg_eigen.proofs.LinearTrials.{IsFrom}
use Rattle.drg_eigen.proofs.search.Search.try_linears.Given as goal

abbrev pub invariant-linears : goal.invariant-linears
invariant-linears l = HasTried (IsFrom l.most (pos l.most -ℤ pos l.steps)) IsAnything l.fn.self l.self
