use Rattle.std.proofs.Common.{◌∙◌}
use Rattle.drg_algebra.proofs.Tests.{never}
use Rattle.drg_solver.proofs.Terms.{left_beside}
use Rattle.drg_solver.proofs.Fits.{beside_fits}
use Rattle.drg_solver.proofs.sums.beside.Goals as goal

pub returns : goal.returns
returns c =
    (rw (c.right_side.ensures, c.requires.sum) at c.in-Ok.ensures.value.1)
    ∙ left_beside c.args.room.now.d c.args.side c.args.room.now.bounds c.args.equation.now c.args.term c.requires.equation c.requires.term

pub unreachable-requires : goal.unreachable-requires
unreachable-requires c =
    let same = left_beside c.args.room.now.d c.args.side c.args.room.now.bounds c.args.equation.now c.args.term c.requires.equation c.requires.term in
    let yes = beside_fits c.args.side c.args.room.now c.args.equation.now c.args.term c.in-Err.ensures.room c.requires.fits c.requires.term same in
    absurd (never _ yes (rw (c.right_side.ensures, c.requires.sum) at c.in-Err.ensures.value))
