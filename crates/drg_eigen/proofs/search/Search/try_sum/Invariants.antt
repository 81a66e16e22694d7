use Rattle.std.proofs.Common.{take}
use Rattle.drg_eigen.specs.Values.{MayPass}
use Rattle.drg_eigen.specs.Found.{HasTried, IsListed}
use Rattle.drg_eigen.proofs.search.Search.try_sum.Given as goal

abbrev pub invariant-products : goal.invariant-products
invariant-products l = HasTried (IsListed l.s (take l.t-index l.products)) (MayPass l.values) l.fn.self l.self
