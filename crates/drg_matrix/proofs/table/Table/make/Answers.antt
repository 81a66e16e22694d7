use Rattle.std.proofs.Common.{◌≡◌, ◌∙◌, ◌*◌, replicate}
use Rattle.drg_matrix.proofs.Cells.{cell_of_filled, filled}
use Rattle.drg_matrix.proofs.table.Table.make.Goals as goal

pub returns-clause-cells : goal.returns-clause-cells
returns-clause-cells g c = λ i j h k.
    let all : c.resize.new.self.items ≡ replicate (c.args.side * c.args.side) c.args.fill = c.in_ok-resize.ensures.items ∙ filled _ _ _ c.args.fill c.new-cells.ensures.items c.new-cells.ensures.len in
    rw all (cell_of_filled g.F.Field.value (g.F.Field.operations c.root.result).nil c.args.side i j c.args.fill h k)
