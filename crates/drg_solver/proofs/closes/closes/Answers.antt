use Rattle.std.proofs.Common.{◌≡◌, ◌∙◌, Bool, not, true, false, sym, subst, add-one}
use Rattle.std.specs.Prelude.{slice_index_or}
use Rattle.drg_rooms.specs.Lines.{is_open}
use Rattle.drg_solver.specs.Trials.{IsTaken}
use Rattle.drg_solver.proofs.Tried.{at_first, tried_next, tried_all}
use Rattle.drg_solver.proofs.closes.closes.Goals as goal

pub lines-init : goal.lines-init
lines-init c = at_first c.args.system.now c.args.room.now _ c.in_ok-branches.ensures

pub lines-preserved : goal.lines-preserved
lines-preserved c =
    let taken = c.in_ok-take.ensures c.if-not-branch.false in
    let there : IsTaken c.lines.branches (slice_index_or c.args.lines.now c.lines.line-index c.line-item.result) c.take.new.branches = subst (λ l. IsTaken c.lines.branches l c.take.new.branches) c.line-item.is taken in
    let opened : is_open c.lines.branches.branches ≡ true = sym c.is_open.ensures ∙ c.if-not-is_open.false in
    rw add-one
    (tried_next c.args.system.now c.args.room.now c.args.lines.now c.lines.line-index c.line-item.result c.lines.branches c.take.new.branches c.lines.invariant opened there c.lines-test.true
    c.if-lines-gt-MOST_LINES.false)

shut : (a : Bool) → not a ≡ true → a ≡ false
shut true h = cc
shut false h = cc

pub returns : goal.returns
returns c = λ h.
    tried_all c.args.system.now c.args.room.now c.args.lines.now c.lines.line-index c.lines.branches c.lines.invariant c.lines-test.false (sym c.is_open-2.ensures ∙ shut c.is_open-2.result h)
