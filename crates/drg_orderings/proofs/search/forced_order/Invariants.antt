use Rattle.std.proofs.Common.{◌-◌, ◌≤◌, length}
use Rattle.drg_orderings.specs.Search.{IsBeginning}
use Rattle.drg_orderings.proofs.search.forced_order.Given as goal

abbrev pub invariant-walk : goal.invariant-walk
invariant-walk g l =
    let t = g.T.ZeroTable in
    record {
      short : length l.order.items ≤ l.d;
      beginning : IsBeginning (t.diameter l.table) (t.IsZero l.table) l.first l.order.items;
    }

abbrev pub decreases-walk : goal.decreases-walk
decreases-walk g l = l.d - length l.order.items
