use Rattle.drg_matrices.specs.Tables.{root_of_tables}
use Rattle.drg_krein.specs.Values.{values_in}
use Rattle.drg_krein.specs.Filling.{ProductsFitBefore}
use Rattle.drg_krein.proofs.checks.products_of_pair.Given as goal

abbrev pub invariant-rows : goal.invariant-rows
invariant-rows g l =
    let f = g.F.Field in
    ProductsFitBefore (f.operations (root_of_tables l.frame)) (values_in f.value f.operations l.numbers l.frame) l.i l.j l.r
