use Rattle.std.proofs.Common.{◌≡◌, ℕ, ◌<◌, ◌≤◌, length, slice_index}
use Rattle.std.specs.Prelude.{bit_or}
use Rattle.drg_edges.proofs.vertex_set.VertexSet.unite.Given as goal

abbrev pub invariant-words : goal.invariant-words
invariant-words l = record {
  long : length l.self.words ≡ 32;
  made : (w : ℕ) → w < l.place → slice_index l.self.words w ≡ bit_or (slice_index l.initial.self.words w) (slice_index l.other.words w);
  left : (w : ℕ) → l.place ≤ w → slice_index l.self.words w ≡ slice_index l.initial.self.words w;
}
