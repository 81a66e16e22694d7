use Rattle.std.proofs.Common.{◌≡◌, ℕ, ◌+◌, ◌-◌, ◌++◌, List, length}
use Rattle.drg_array.specs.Entries.{Entries}
use Rattle.drg_census.specs.Begins.{AreAllBelow}
use Rattle.drg_census.proofs.search.+search.Given as goal

abbrev pub decreases-search : goal.decreases-search
decreases-search l = l.sought.d + l.sought.d - length l.beginning

abbrev pub invariant-entries : goal.invariant-entries
invariant-entries l =
    (more : List Entries) × (l.found.items ≡ l.initial.found.items ++ more)
    × AreAllBelow l.sought.d l.sought.k l.sought.n l.beginning l.entry more
