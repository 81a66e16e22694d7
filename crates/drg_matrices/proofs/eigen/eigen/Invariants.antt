use Rattle.drg_matrices.specs.Values.{item_at}
use Rattle.drg_matrices.specs.Filling.{HasEigen, HasMultiplicities}
use Rattle.drg_matrices.proofs.eigen.eigen.Given as goal

abbrev pub invariant-rows : goal.invariant-rows
invariant-rows g l =
    let f = g.F.Field in
    let theta = item_at (f.operations l.root) f.value l.thetas in record {
      table : HasEigen f.value f.operations f.root_of l.root l.array theta l.table l.i 0;
      multiplicities : HasMultiplicities f.value f.operations f.root_of l.root l.array theta l.multiplicities.items l.i;
    }
