use Rattle.std.proofs.Common.{◌≡◌, false, ap}
use Rattle.drg_algebra.proofs.Tests.{never}
use Rattle.drg_linear.specs.Assignments.{value_fits}
use Rattle.drg_linear.proofs.Holding.{holds_in_range}
use Rattle.drg_linear.proofs.system.meets.Goals as goal

pub returns-in-Err : goal.returns-in-Err
returns-in-Err c =
    let yes = holds_in_range c.args.room.now c.args.values.now c.args.equation.now c.d.ensures.room c.requires.inside c.requires.fits in
    let terms : c.equation.inside.terms ≡ c.args.equation.now.terms = ap (λ e. e.terms) c.equation.view_is in
    let no : value_fits c.args.room.now.d c.args.values.now c.args.equation.now.terms ≡ false =
    rw (c.d.ensures.value, c.as_slice.ensures, terms) at c.in-Err.ensures
    in
    absurd (never _ yes no)
