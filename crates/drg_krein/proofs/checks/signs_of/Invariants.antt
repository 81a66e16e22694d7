use Rattle.drg_matrices.specs.Tables.{root_of_tables}
use Rattle.drg_krein.specs.Values.{values_in}
use Rattle.drg_krein.specs.Filling.{SignsFitBefore}
use Rattle.drg_krein.proofs.checks.signs_of.Given as goal

abbrev pub invariant-seconds : goal.invariant-seconds
invariant-seconds g l =
    let f = g.F.Field in
    SignsFitBefore (f.operations (root_of_tables l.frame)) (values_in f.value f.operations l.numbers l.frame) l.i l.j 0
