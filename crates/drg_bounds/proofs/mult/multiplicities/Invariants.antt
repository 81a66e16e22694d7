use Rattle.drg_matrices.specs.Tables.{diameter_of, root_of_tables, dual_in}
use Rattle.drg_bounds.proofs.FirstFailures.{HoldBefore}
use Rattle.drg_bounds.proofs.mult.multiplicities.Given as goal

abbrev pub invariant-indices : goal.invariant-indices
invariant-indices g l =
    let f = g.F.Field in
    HoldBefore (f.operations (root_of_tables l.frame)) (diameter_of l.frame) (dual_in f.value f.operations l.frame) l.i
