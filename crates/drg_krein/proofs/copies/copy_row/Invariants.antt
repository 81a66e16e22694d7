use Rattle.drg_krein.specs.Copies.{IsCopy}
use Rattle.drg_krein.proofs.copies.copy_row.Given as goal

abbrev pub invariant-entries : goal.invariant-entries
invariant-entries g l =
    let f = g.F.Field in
    IsCopy f.value f.operations l.frame l.matrix l.table l.row l.col
