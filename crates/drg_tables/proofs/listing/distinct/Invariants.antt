use Rattle.std.proofs.Common.{map, take}
use Rattle.drg_tables.specs.Distinct.{AreDistinct}
use Rattle.drg_tables.specs.declared.row.Row.{Row}
use Rattle.drg_tables.proofs.listing.distinct.Given as goal

abbrev pub invariant-rows : goal.invariant-rows
invariant-rows l = AreDistinct (map (λ (row : Row). row.array) (take l.row-index l.fn.rows)) l.found
