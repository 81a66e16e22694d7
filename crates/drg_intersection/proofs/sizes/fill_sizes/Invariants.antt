use Rattle.std.proofs.Common.{◌≡◌, length}
use Rattle.drg_array.specs.declared.node.Node.TheVariants.{K}
use Rattle.drg_intersection.specs.Faults.{IsReached}
use Rattle.drg_intersection.specs.FirstNumbers.{AreSizes}
use Rattle.drg_intersection.specs.Table.{AreInRange}
use Rattle.drg_intersection.proofs.sizes.fill_sizes.Given as goal

abbrev pub invariant-sizes : goal.invariant-sizes
invariant-sizes l = record {
  long : length l.sizes.items ≡ l.i;
  sizes : AreSizes l.array l.sizes.items;
  in_range : AreInRange l.sizes.items;
  reached : IsReached l.array (K l.i);
}
