use Rattle.std.proofs.Common.{◌≡◌, ℕ, length, take}
use Rattle.std.specs.Prelude.{◌||◌}
use Rattle.drg_edges.specs.Layers.{set_at, are_joined}
use Rattle.drg_edges.specs.VertexSets.{holds}
use Rattle.drg_edges.proofs.layers.join_all.Given as goal

abbrev pub invariant-pairs : goal.invariant-pairs
invariant-pairs l = record {
  long : length l.rows ≡ length l.initial.rows;
  hold : (u v : ℕ) → holds (set_at l.rows u) v ≡ (are_joined (take l.x-index l.pairs) u v || holds (set_at l.initial.rows u) v);
}
