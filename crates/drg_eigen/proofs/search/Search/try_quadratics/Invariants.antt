use Rattle.std.proofs.Common.{pos}
use Rattle.std.specs.Prelude.{◌-ℤ◌}
use Rattle.drg_eigen.specs.Found.{HasTried, MayBeFactor}
use Rattle.drg_eigen.proofs.QuadraticTrials.{HasSumAbove}
use Rattle.drg_eigen.proofs.search.Search.try_quadratics.Given as goal

abbrev pub invariant-sums : goal.invariant-sums
invariant-sums l = HasTried (HasSumAbove l.k (pos l.most -ℤ pos l.steps)) (MayBeFactor l.fn.self.left) l.fn.self l.self
