use Rattle.drg_matrices.specs.Values.{item_at}
use Rattle.drg_matrices.specs.Filling.{HasLastCosines}
use Rattle.drg_matrices.proofs.cosines.fill_row.Given as goal

abbrev pub invariant-cosines : goal.invariant-cosines
invariant-cosines g l =
    let f = g.F.Field in
    HasLastCosines f.value f.operations f.root_of l.root l.array (item_at (f.operations l.root) f.value l.thetas) l.table l.i l.r l.before l.last
