use Rattle.drg_algebra.proofs.Tests.{never}
use Rattle.drg_solver.proofs.Fits.{left_fits}
use Rattle.drg_solver.proofs.modulus.left_by_fixed.Goals as goal

pub unreachable-requires : goal.unreachable-requires
unreachable-requires c =
    let yes = left_fits c.args.room.now c.args.equation.now c.in-Err.ensures.room c.requires in
    absurd (never _ yes c.in-Err.ensures.value)
