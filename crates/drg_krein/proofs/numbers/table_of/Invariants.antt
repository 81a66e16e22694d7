use Rattle.drg_matrices.specs.Tables.{root_of_tables}
use Rattle.drg_krein.specs.Values.{values_in}
use Rattle.drg_krein.specs.Filling.{HasNumbers, NumbersFitBefore}
use Rattle.drg_krein.proofs.numbers.table_of.Given as goal

abbrev pub invariant-rows : goal.invariant-rows
invariant-rows g l =
    let f = g.F.Field in
    let values = values_in f.value f.operations l.numbers l.frame in record {
      table : HasNumbers f.value f.operations (root_of_tables l.frame) values l.i l.table l.j 0;
      before : NumbersFitBefore (f.operations (root_of_tables l.frame)) values l.i l.j 0;
    }
