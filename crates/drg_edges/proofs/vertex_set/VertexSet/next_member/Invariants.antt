use Rattle.std.proofs.Common.{◌≡◌, ℕ, ◌-◌, ◌<◌, ◌≤◌, false}
use Rattle.drg_edges.specs.VertexSets.{holds}
use Rattle.drg_edges.proofs.vertex_set.VertexSet.next_member.Given as goal

abbrev pub invariant-words : goal.invariant-words
invariant-words l = record {
  from : l.from ≤ l.v;
  inside : l.v ≤ 2048;
  none : (u : ℕ) → l.from ≤ u → u < l.v → holds l.self u ≡ false;
}

abbrev pub decreases-words : goal.decreases-words
decreases-words l = 2048 - l.v
