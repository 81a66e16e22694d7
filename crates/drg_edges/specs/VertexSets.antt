-- Which numbers a set of bits holds.
use Rattle.std.specs.Prelude.{ℕ, Bool, ◌==◌, ◌/◌, ◌%◌, slice_index}
use Rattle.std.specs.Int.{bit_at}
use Rattle.drg_edges.specs.declared.vertex_set.VertexSet.{VertexSet}

-- The number v is a member: its bit is set.
abbrev pub holds : VertexSet → ℕ → Bool
holds set v = bit_at (slice_index set.words (v / 64)) (v % 64) == 1
