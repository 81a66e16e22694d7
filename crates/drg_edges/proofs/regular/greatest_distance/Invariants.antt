use Rattle.std.proofs.Common.{◌≢◌, ℕ, ◌<◌, ◌≤◌, None}
use Rattle.drg_edges.specs.References.{reference_of}
use Rattle.drg_edges.proofs.regular.greatest_distance.Given as goal

abbrev pub invariant-distances : goal.invariant-distances
invariant-distances l = (k : ℕ) → 1 ≤ k → k < l.i → reference_of l.references k ≢ None
