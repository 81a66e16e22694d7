use Rattle.drg_matrix.specs.Filling.{IsFilled}
use Rattle.drg_matrix.proofs.product.append_row.Given as goal

abbrev pub invariant-cols : goal.invariant-cols
invariant-cols g l =
    let f = g.F.Field in
    IsFilled f.value f.operations f.root_of l.left l.right l.row l.col l.cells.items
