use Rattle.std.proofs.Common.{◌≤◌}
use Rattle.drg_census.proofs.Sizes.{AreFirstSizes}
use Rattle.drg_census.proofs.beginning.sizes_allow.Given as goal

abbrev pub invariant-sizes : goal.invariant-sizes
invariant-sizes l = record {
  known : AreFirstSizes l.sought.d l.sought.k l.sought.n l.beginning l.i l.size l.sum;
  within : l.size ≤ l.sum;
  most : l.sum ≤ l.sought.n;
}
