use Rattle.drg_orderings.specs.Orderings.{AreOrderings}
use Rattle.drg_orderings.proofs.Found.{IsBelow}
use Rattle.drg_orderings.proofs.search.orderings.Given as goal

abbrev pub invariant-firsts : goal.invariant-firsts
invariant-firsts g l =
    let t = g.T.ZeroTable in
    AreOrderings (IsBelow (t.diameter l.table) (t.IsZero l.table) l.first) l.found.items
