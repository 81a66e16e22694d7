use Rattle.std.proofs.Common.{◌<◌, length, add-one}
use Rattle.drg_rooms.specs.Combinations.{no_equation}
use Rattle.drg_solver.proofs.Closed.{named_on}
use Rattle.drg_solver.proofs.lines.names.Goals as goal

pub equations-preserved : goal.equations-preserved
equations-preserved c =
    let within : c.equations.n < length c.args.system.now.equations = rw c.equations-n-end.ensures.value at c.equations-test.true in
    rw (c.in_ok-push.ensures.items, c.line_of.ensures, add-one)
    (named_on c.args.system.now c.equations.lines.items c.equations.n c.name.result no_equation within c.equations.invariant c.name.ensures)
