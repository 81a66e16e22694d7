use Rattle.drg_matrices.specs.Tables.{root_of_tables}
use Rattle.drg_bounds.specs.AbsoluteBound.{values_in}
use Rattle.drg_bounds.specs.AbsoluteFits.{PassBefore}
use Rattle.drg_bounds.proofs.absolute_bound.absolute.Given as goal

abbrev pub invariant-firsts : goal.invariant-firsts
invariant-firsts g l =
    let f = g.F.Field in
    PassBefore (f.operations (root_of_tables l.frame)) (values_in f.value f.operations l.frame l.krein) l.i 0
