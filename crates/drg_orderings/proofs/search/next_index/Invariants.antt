use Rattle.std.proofs.Common.{ℕ, ◌<◌}
use Rattle.drg_orderings.specs.Search.{CanFollow}
use Rattle.drg_orderings.proofs.search.next_index.Given as goal

abbrev pub invariant-indices : goal.invariant-indices
invariant-indices g l =
    let t = g.T.ZeroTable in
    (x : ℕ) → x < l.index → ¬ CanFollow (t.diameter l.table) (t.IsZero l.table) l.order x
