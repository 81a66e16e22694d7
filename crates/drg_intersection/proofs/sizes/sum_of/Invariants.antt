use Rattle.std.proofs.Common.{◌≡◌, ℕ, ◌<◌, suc}
use Rattle.std.specs.Prelude.{pos, ◌≤ℤ◌}
use Rattle.drg_algebra.specs.Rational.{whole, plus}
use Rattle.drg_algebra.specs.Tables.{total}
use Rattle.drg_array.specs.Numbers.{size}
use Rattle.drg_intersection.specs.Fits.{IsInRange}
use Rattle.drg_intersection.proofs.sizes.sum_of.Given as goal

abbrev pub invariant-sizes : goal.invariant-sizes
invariant-sizes l = record {
  sum : total (whole (pos 0)) plus l.size-index (size l.array) ≡ whole l.sum.value;
  natural : pos 0 ≤ℤ l.sum.value;
  fits : (i : ℕ) → i < l.size-index → IsInRange (total (whole (pos 0)) plus (suc i) (size l.array));
}
