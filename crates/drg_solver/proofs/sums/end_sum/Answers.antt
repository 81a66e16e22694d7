use Rattle.std.proofs.Common.{◌≡◌, false, ap}
use Rattle.drg_algebra.proofs.Tests.{never}
use Rattle.drg_linear.specs.Rooms.{end_sum_fits}
use Rattle.drg_solver.proofs.Fits.{ends_stay}
use Rattle.drg_solver.proofs.sums.end_sum.Goals as goal

pub unreachable-requires : goal.unreachable-requires
unreachable-requires c =
    let stays = ends_stay c.args.side c.args.room.now c.args.equation.now c.d.ensures.room c.requires in
    let terms : c.equation.inside.terms ≡ c.args.equation.now.terms = ap (λ e. e.terms) c.equation.view_is in
    let no : end_sum_fits c.args.room.now.d c.args.side c.args.room.now.bounds c.args.equation.now.terms ≡ false =
    rw (c.new.ensures, c.d.ensures.value, c.as_slice.ensures.value, c.as_slice-terms.ensures, terms) at c.in-Err.ensures
    in
    absurd (never _ stays.fits no)
