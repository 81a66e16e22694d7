use Rattle.std.proofs.Common.{◌≡◌, length}
use Rattle.drg_array.specs.Entries.{diameter}
use Rattle.drg_array.specs.declared.node.Node.TheVariants.{P}
use Rattle.drg_intersection.specs.Faults.{IsReached}
use Rattle.drg_intersection.specs.FirstNumbers.{AreCells}
use Rattle.drg_intersection.specs.Numbers.{place}
use Rattle.drg_intersection.proofs.table.fill_rows.Given as goal

abbrev pub invariant-rows : goal.invariant-rows
invariant-rows l = record {
  long : length l.p.items ≡ place (diameter l.array) l.h l.i 0;
  cells : AreCells l.array l.p.items;
  reached : IsReached l.array (P l.h l.i 0);
}
