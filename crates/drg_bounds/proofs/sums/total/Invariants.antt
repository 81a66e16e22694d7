use Rattle.drg_matrices.specs.Tables.{root_of_tables}
use Rattle.drg_bounds.specs.AbsoluteBound.{values_in}
use Rattle.drg_bounds.specs.Totals.{IsTotalBelow}
use Rattle.drg_bounds.proofs.sums.total.Given as goal

abbrev pub invariant-numbers : goal.invariant-numbers
invariant-numbers g l =
    let f = g.F.Field in
    IsTotalBelow f.value f.root_of f.operations (root_of_tables l.frame) (values_in f.value f.operations l.frame l.krein) l.i l.j l.h l.total
