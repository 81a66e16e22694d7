use Rattle.std.proofs.Common.{◌≡◌, ℕ, ◌<◌, true}
use Rattle.std.specs.List.{AllByRecursion}
use Rattle.drg_eigen.specs.Fits.{next_coefficient}
use Rattle.drg_whole.specs.Range.{InRange}
use Rattle.drg_eigen.specs.Work.{next_fits}
use Rattle.drg_eigen.proofs.Coefficients.{tabulate}
use Rattle.drg_eigen.proofs.recurrence.next_polynomial.Given as goal

abbrev pub invariant-coefficients : goal.invariant-coefficients
invariant-coefficients l = record {
  items : l.next.items ≡ tabulate l.t (next_coefficient l.array l.j l.before l.last);
  in_range : AllByRecursion InRange l.next.items;
  fits : (t : ℕ) → t < l.t → next_fits l.array l.j l.before l.last t ≡ true;
}
