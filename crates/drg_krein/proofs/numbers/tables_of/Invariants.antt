use Rattle.drg_matrices.specs.Tables.{root_of_tables}
use Rattle.drg_krein.specs.Values.{values_in}
use Rattle.drg_krein.specs.Filling.{AreFull, NumbersFitBefore}
use Rattle.drg_krein.proofs.numbers.tables_of.Given as goal

abbrev pub invariant-tables : goal.invariant-tables
invariant-tables g l =
    let f = g.F.Field in
    let values = values_in f.value f.operations l.numbers l.frame in record {
      full : AreFull f.value f.operations (root_of_tables l.frame) values l.tables.items l.i;
      before : NumbersFitBefore (f.operations (root_of_tables l.frame)) values l.i 0 0;
    }
