use Rattle.std.proofs.Common.{map, take}
use Rattle.drg_tables.specs.Distinct.{AreDistinct}
use Rattle.drg_tables.proofs.listing.distinct_arrays.Given as goal

abbrev pub invariant-list : goal.invariant-list
invariant-list l = AreDistinct (take l.array-index l.fn.list) l.found
