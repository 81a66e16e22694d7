use Rattle.std.proofs.Common.{◌≤◌, ◌≡◌, ◌+◌, length, take, arith, vec_len, length-take, refl, ◌∙◌}
use Rattle.std.proofs.KnownBytes.{Consumes-trans}
use Rattle.drg_outside.proofs.WholeLemmas.{TakesCount-more, TakesAtMost-count}
use Rattle.drg_outside.proofs.whole.read_all.Goals as goal

pub returns-then-count-room-clause-too_long_takes : goal.returns-then-count-room-clause-too_long_takes
returns-then-count-room-clause-too_long_takes g c =
    let h = c.in-Ok-read.ensures in
    let asked : c.in-Ok-read.count ≤ c.min-wanted.result = omega (arith, h.bound, c.read.auto.buf, length-take c.min-wanted.result c.deref_mut.result.now) in
    let sized : vec_len c.pieces.bytes + length (take c.in-Ok-read.count c.read.new.buf) ≡ c.args.limit + 1 = omega (arith, asked, h.bound) in
    λ _. TakesCount-more _ _ _ c.pieces.bytes.items _ _ c.pieces.invariant.taken h.bytes.0 (omega (arith, sized, c.pieces.bytes.ok))

pub returns-in_default-extend_from_slice-clause-memory_takes : goal.returns-in_default-extend_from_slice-clause-memory_takes
returns-in_default-extend_from_slice-clause-memory_takes g c =
    let h = c.in-Ok-read.ensures in
    let short : vec_len c.pieces.bytes + length (take c.in-Ok-read.count c.read.new.buf) ≤ c.args.limit = omega (arith, h.bound) in
    λ _. TakesAtMost-count _ _ _ _ (TakesCount-more _ _ _ c.pieces.bytes.items _ _ c.pieces.invariant.taken h.bytes.0 refl) (omega (arith, short, c.pieces.bytes.ok))

pub pieces-preserved : goal.pieces-preserved
pieces-preserved g c =
    let h = c.in-Ok-read.ensures in
    let k = c.in-Ok-extend_from_slice.ensures in
    let i = c.pieces.invariant in
    record {
      whole_buffer = i.whole_buffer;
      short = omega (arith, h.bound, k.len);
      taken = rw k.items (Consumes-trans _ _ _ _ _ i.taken h.bytes.0);
      later = omega (arith, i.later, h.cause.later);
      same_files = h.same_files ∙ i.same_files;
      other_count = h.other_count ∙ i.other_count;
    }
