use Rattle.std.proofs.Common.{suc, ◌<◌, ◌+◌, ◌∙◌, arith}
use Rattle.drg_array.specs.Entries.{diameter}
use Rattle.drg_matrices.specs.Values.{item_at}
use Rattle.drg_matrices.proofs.TableRows.{cosine_read, eigen_set}
use Rattle.drg_matrices.proofs.eigen.fill_entries.Goals as goal

pub entries-preserved : goal.entries-preserved
entries-preserved g c =
    let f = g.F.Field in
    let a = c.args.array.now in
    let theta = item_at (f.operations c.args.root) f.value c.args.thetas.now in
    let inside : c.entries.r < suc (diameter a) = omega arith in
    let root = c.get-cosine.ensures.root ∙ c.requires.cosines.same_root in
    let value = cosine_read f.value f.operations f.root_of c.args.root a theta c.args.cosines.now c.args.i c.entries.r c.get-cosine.result c.requires.cosines c.requires.inside inside c.get-cosine.ensures.value in
    let size_root = c.size.ensures.root ∙ root in
    let product = rw (size_root, c.size.ensures.value, root, value) at c.in_ok-entry.ensures.value in
    let set = c.set.ensures in
    eigen_set f.value f.operations f.root_of c.args.root a theta c.entries.table c.set.new.self c.args.i c.entries.r (c.entries.r + 1)
    (omega arith) c.requires.inside inside c.entries.invariant product.0 set.side set.root (set.changed ∙ product.1) set.others
