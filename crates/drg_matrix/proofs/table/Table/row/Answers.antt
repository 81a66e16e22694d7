use Rattle.std.proofs.Common.{refl, ap, arith}
use Rattle.drg_matrix.proofs.Cells.{row_values}
use Rattle.drg_matrix.proofs.table.Table.row.Goals as goal

pub returns-clause-values : goal.returns-clause-values
returns-clause-values g c =
    let side = ap (λ t. t.side) c.self.view_is in
    rw (c.deref.ensures.value, ← c.self.view_is) (row_values g.F.Field.value g.F.Field.operations (record { side = c.self.inside.side; root = c.self.inside.root; cells = c.self.inside.cells.items }) c.args.row _ _ c.self.invariant.full (omega (arith, side)) refl refl)
