use Rattle.std.proofs.Common.{ℕ, arith, rules, length-drop, length-take}
use Rattle.std.proofs.lemmas.List.{take_rest}
use Rattle.drg_outside.proofs.WholeLemmas.{Appends-more}
use Rattle.drg_outside.proofs.whole.write_all.Goals as goal

pub writes-preserved : goal.writes-preserved
writes-preserved g c =
    let i = c.writes.invariant in
    let e = c.in_ok-done.ensures in
    record {
      in_range = omega (arith, e.bound, length-take {A = ℕ}, length-drop {A = ℕ});
      written = Appends-more _ _ _ c.args.piece.now _ c.writes.done c.in_ok-done.field-0 (search (rules, take_rest)) i.written e.appended;
      later = omega (arith, i.later, e.cause.later);
    }
