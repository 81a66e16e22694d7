use Rattle.std.proofs.Common.{◌≡◌, ◌∙◌, true, sym}
use Rattle.drg_rooms.specs.Lines.{is_open}
use Rattle.drg_solver.proofs.Prunings.{followed_next, followed_all}
use Rattle.drg_solver.proofs.pruning.follow.Goals as goal

pub lines-preserved : goal.lines-preserved
lines-preserved c =
    let taken = c.in_ok-take.ensures c.if-not-branch.false in
    let opened : is_open c.lines.branches.branches ≡ true = sym c.is_open.ensures ∙ c.if-not-is_open.false in
    let few = rw c.bounds_after-bounds.ensures at c.if-bounds-gt-MOST_BOUNDS.false in
    rw (c.in_ok-push.ensures.items, c.bounds_after-bounds.ensures)
    (followed_next c.args.branches.now c.lines.followed.items c.in-Some.new c.lines.branches c.take.new.branches c.lines.bounds c.lines.invariant opened taken few)

pub returns : goal.returns
returns c = followed_all c.args.branches.now c.lines.followed.items c.lines.branches c.lines.bounds c.lines.invariant (sym c.is_open-2.ensures ∙ c.if-is_open.false)
