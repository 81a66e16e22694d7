use Rattle.std.proofs.Common.{◌≡◌, suc}
use Rattle.std.specs.List.{AllByRecursion}
use Rattle.drg_eigen.specs.Characteristic.{polynomial}
use Rattle.drg_eigen.specs.Fits.{AllFitBelow}
use Rattle.drg_whole.specs.Range.{InRange}
use Rattle.drg_eigen.proofs.recurrence.characteristic.Given as goal

abbrev pub invariant-polynomials : goal.invariant-polynomials
invariant-polynomials l = record {
  before : l.before.items ≡ polynomial l.array l.j;
  last : l.last.items ≡ polynomial l.array (suc l.j);
  before_in_range : AllByRecursion InRange l.before.items;
  in_range : AllByRecursion InRange l.last.items;
  reached : AllFitBelow l.array (suc (suc l.j));
}
