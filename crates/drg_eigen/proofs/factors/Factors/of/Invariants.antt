use Rattle.std.proofs.Common.{◌≡◌, take, map}
use Rattle.drg_eigen.specs.Factor.{polynomial_of}
use Rattle.drg_eigen.specs.Step.{factors_of}
use Rattle.drg_eigen.proofs.factors.Factors.of.Given as goal

abbrev pub invariant-divisors : goal.invariant-divisors
invariant-divisors l = l.polys.items ≡ map polynomial_of (factors_of (take l.divisor-index l.found))
