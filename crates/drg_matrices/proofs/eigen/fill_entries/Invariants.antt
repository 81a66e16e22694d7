use Rattle.drg_matrices.specs.Values.{item_at}
use Rattle.drg_matrices.specs.Filling.{HasEigen}
use Rattle.drg_matrices.proofs.eigen.fill_entries.Given as goal

abbrev pub invariant-entries : goal.invariant-entries
invariant-entries g l =
    let f = g.F.Field in
    HasEigen f.value f.operations f.root_of l.root l.array (item_at (f.operations l.root) f.value l.thetas) l.table l.i l.r
