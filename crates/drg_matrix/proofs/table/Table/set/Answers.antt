use Rattle.drg_matrix.proofs.Cells.{cell_changed, cell_kept}
use Rattle.std.proofs.Common.{ap, arith}
use Rattle.drg_matrix.proofs.table.Table.set.Goals as goal

pub returns-clause-changed : goal.returns-clause-changed
returns-clause-changed g c =
    let side = ap (λ t. t.side) c.self.view_is in
    cell_changed g.F.Field.value (g.F.Field.operations c.self.inside.root).nil c.self.inside.side c.args.row c.args.col c.self.inside.cells.items c.args.v c.self.invariant.full (omega arith) (omega arith)

pub returns-clause-others : goal.returns-clause-others
returns-clause-others g c = λ i j h k apart.
    let side = ap (λ t. t.side) c.self.view_is in
    rw (← c.self.view_is) (cell_kept g.F.Field.value (g.F.Field.operations c.self.inside.root).nil c.self.inside.side i j c.args.row c.args.col c.self.inside.cells.items c.args.v (omega arith) (omega arith) apart)
