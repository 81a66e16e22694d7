use Rattle.std.proofs.Common.{◌≡◌, ℕ, suc, ◌<◌, Some, length, slice_index}
use Rattle.drg_edges.specs.References.{reference_of}
use Rattle.drg_edges.specs.declared.references.Reference.{Reference}
use Rattle.drg_edges.proofs.regular.regular.Given as goal

abbrev pub invariant-distances : goal.invariant-distances
invariant-distances l = record {
  long_b : length l.b.items ≡ l.i;
  long_c : length l.c.items ≡ l.i;
  further : (j : ℕ) (r : Reference) → j < l.i → reference_of l.references j ≡ Some r → slice_index l.b.items j ≡ r.counts.up;
  nearer : (j : ℕ) (r : Reference) → j < l.i → reference_of l.references (suc j) ≡ Some r → slice_index l.c.items j ≡ r.counts.down;
}
