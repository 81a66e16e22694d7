use Rattle.drg_matrices.specs.Values.{item_at}
use Rattle.drg_matrices.specs.Filling.{HasDual}
use Rattle.drg_matrices.proofs.dual.dual.Given as goal

abbrev pub invariant-rows : goal.invariant-rows
invariant-rows g l =
    let f = g.F.Field in
    HasDual f.value f.operations f.root_of l.root l.array (item_at (f.operations l.root) f.value l.thetas) l.table l.r 0
