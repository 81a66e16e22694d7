use Rattle.std.proofs.Common.{◌≡◌, ℕ, ◌-◌, ◌<◌, ◌≤◌, true, Some, length}
use Rattle.std.specs.Prelude.{if◌then◌else◌, ◌&&◌, nat_lt}
use Rattle.drg_edges.specs.Layers.{set_at, noted_at, has_neighbour}
use Rattle.drg_edges.specs.VertexSets.{holds}
use Rattle.drg_edges.proofs.layers.visit.Given as goal

abbrev pub invariant-members : goal.invariant-members
invariant-members l = record {
  inside : l.from ≤ 2048;
  long : length l.distances ≡ length l.rows;
  sound : (u : ℕ) → holds l.next u ≡ true → has_neighbour l.rows l.layer u ≡ true;
  complete : (v u : ℕ) → v < l.from → holds l.layer v ≡ true → holds (set_at l.rows v) u ≡ true → holds l.next u ≡ true;
  noted : (v : ℕ) → noted_at l.distances v ≡ (if nat_lt v l.from && holds l.layer v then Some l.distance else noted_at l.initial.distances v);
}

abbrev pub decreases-members : goal.decreases-members
decreases-members l = 2048 - l.from
