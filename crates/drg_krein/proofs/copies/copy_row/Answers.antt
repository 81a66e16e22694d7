use Rattle.std.proofs.Common.{◌≤◌, ◌+◌, ◌∙◌, arith}
use Rattle.drg_matrices.specs.Tables.{diameter_of}
use Rattle.drg_krein.proofs.Cells.{copy_next}
use Rattle.drg_krein.proofs.copies.copy_row.Goals as goal

pub entries-preserved : goal.entries-preserved
entries-preserved g c =
    let f = g.F.Field in
    let set = c.set.ensures in
    let inside : c.entries.col ≤ diameter_of c.args.frame.now = omega arith in
    copy_next f.value f.operations c.args.frame.now c.args.matrix c.entries.table c.set.new.self c.args.row c.entries.col (c.entries.col + 1) (omega arith)
    c.requires.inside inside c.entries.invariant set.side set.root (set.changed ∙ c.entry.ensures.value) set.others
