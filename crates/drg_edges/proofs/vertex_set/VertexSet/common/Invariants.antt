use Rattle.std.proofs.Common.{◌≡◌, ℕ, ◌*◌, ◌≤◌}
use Rattle.std.specs.Prelude.{◌&&◌}
use Rattle.drg_algebra.specs.Sums.{below, count_of}
use Rattle.drg_edges.specs.VertexSets.{holds}
use Rattle.drg_edges.proofs.vertex_set.VertexSet.common.Given as goal

abbrev pub invariant-words : goal.invariant-words
invariant-words l = record {
  few : l.count ≤ 64 * l.place;
  counted : (m : ℕ) → m ≡ 64 * l.place → l.count ≡ count_of (λ v. holds l.self v && holds l.other v) (below m);
}
