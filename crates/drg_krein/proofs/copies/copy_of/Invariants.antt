use Rattle.drg_krein.specs.Copies.{IsCopy}
use Rattle.drg_krein.proofs.copies.copy_of.Given as goal

abbrev pub invariant-rows : goal.invariant-rows
invariant-rows g l =
    let f = g.F.Field in
    IsCopy f.value f.operations l.frame l.matrix l.table l.row 0
