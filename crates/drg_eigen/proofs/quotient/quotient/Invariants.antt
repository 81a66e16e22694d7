use Rattle.std.proofs.Common.{drop}
use Rattle.std.specs.List.{AllByRecursion}
use Rattle.drg_whole.specs.Range.{InRange}
use Rattle.drg_eigen.specs.Step.{factor_of}
use Rattle.drg_eigen.proofs.Quotients.{Reached}
use Rattle.drg_eigen.proofs.quotient.quotient.Given as goal

abbrev pub invariant-coefficients : goal.invariant-coefficients
invariant-coefficients l = record {
  reached : Reached (factor_of l.divisor) l.coefficients l.quotient.items l.before.value l.last.value (drop l.coefficient-index l.coefficients);
  in_range : AllByRecursion InRange l.quotient.items;
}
