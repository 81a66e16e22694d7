use Rattle.std.proofs.Common.{◌≢◌, ℕ, ◌<◌, None}
use Rattle.drg_edges.specs.Layers.{noted_at}
use Rattle.drg_edges.proofs.search.first_apart.Given as goal

abbrev pub invariant-vertices : goal.invariant-vertices
invariant-vertices l = (v : ℕ) → v < l.y → noted_at l.layers.distances.items v ≢ None
