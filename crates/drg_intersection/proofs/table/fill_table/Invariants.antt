use Rattle.std.proofs.Common.{◌≡◌, length}
use Rattle.drg_array.specs.Entries.{diameter}
use Rattle.drg_array.specs.declared.node.Node.TheVariants.{P}
use Rattle.drg_intersection.specs.Faults.{IsReached}
use Rattle.drg_intersection.specs.FirstNumbers.{AreCells}
use Rattle.drg_intersection.specs.Numbers.{place}
use Rattle.drg_intersection.proofs.table.fill_table.Given as goal

abbrev pub invariant-table : goal.invariant-table
invariant-table l = record {
  long : length l.p.items ≡ place (diameter l.array) l.h 0 0;
  cells : AreCells l.array l.p.items;
  reached : IsReached l.array (P l.h 0 0);
}
