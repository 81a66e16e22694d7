use Rattle.drg_matrix.specs.Filling.{IsFilled}
use Rattle.drg_matrix.proofs.table.Table.product.Given as goal

abbrev pub invariant-rows : goal.invariant-rows
invariant-rows g l =
    let f = g.F.Field in
    IsFilled f.value f.operations f.root_of l.self l.other l.row 0 l.cells.items
