use Rattle.drg_matrix.proofs.Filling.{filled_more}
use Rattle.drg_matrix.proofs.product.append_row.Goals as goal

pub cols-preserved : goal.cols-preserved
cols-preserved g c =
    let f = g.F.Field in
    let answer = c.in-Ok.ensures.value in
    filled_more f.value f.operations f.root_of c.args.left.now c.args.right.now c.args.row c.cols.col c.cols.cells.items c.push.new.self.items c.in-Ok.value
    c.in_ok-push.ensures.items c.cols.invariant c.in-Ok.ensures.root answer.0 answer.1
