use Rattle.std.proofs.Common.{◌≡◌, drop, pos}
use Rattle.drg_solver.specs.Moduli.{divisor_from}
use Rattle.drg_solver.proofs.modulus.free_divisor.Given as goal

abbrev pub invariant-terms : goal.invariant-terms
invariant-terms l = divisor_from l.d l.bounds (pos 0) l.equation.terms ≡ divisor_from l.d l.bounds l.g.value (drop l.term-index l.equation.terms)
