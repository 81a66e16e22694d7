use Rattle.std.proofs.Common.{◌<◌, ◌≤◌, length, arith, add-one, ◌∙◌}
use Rattle.drg_solver.proofs.Tried.{pushed_next, pushed_all}
use Rattle.drg_solver.proofs.closes.open.Goals as goal

pub equations-preserved : goal.equations-preserved
equations-preserved c =
    let within : c.equations.equation-index < length c.args.system.now.equations = rw c.equations-equation-items.ensures.value at c.equations-test.true in
    let there = rw c.equations-equation-items.ensures.value at c.equation-item.is in
    rw add-one
    (pushed_next c.args.room.now.d c.args.system.now.equations c.args.room.now.bounds c.equations.equation-index c.equation-item.result c.in_ok-copied.field-0 c.equations.branches c.push.new.self c.equations.invariant within
    there c.in_ok-copied.ensures c.in_ok-push.ensures)

pub returns : goal.returns
returns c =
    let out : length c.args.system.now.equations ≤ c.equations.equation-index = (let f = rw c.equations-equation-items.ensures.value at c.equations-test.false in omega (arith, f)) in
    c.equations.invariant ∙ pushed_all c.args.room.now.d c.args.system.now.room.d c.args.system.now.equations c.args.room.now.bounds c.equations.equation-index c.requires out
