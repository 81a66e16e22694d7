use Rattle.std.proofs.Common.{take}
use Rattle.drg_eigen.specs.Roots.{AreRootsOf}
use Rattle.drg_eigen.specs.Step.{factors_of}
use Rattle.drg_eigen.proofs.spectrum.unsorted_roots.Given as goal

abbrev pub invariant-divisors : goal.invariant-divisors
invariant-divisors l = AreRootsOf l.root (factors_of (take l.divisor-index l.found)) l.roots.items
