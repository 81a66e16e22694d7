-- Laws of the census.
use Rattle.std.specs.Prelude.{◌≡◌, ℕ, List}
use Rattle.drg_array.specs.Entries.{Entries}
use Rattle.drg_array.specs.declared.node.Node.{Node}
use Rattle.drg_intersection.specs.Faults.{IsNode}
use Rattle.drg_intersection.specs.Fits.{Fits}
use Rattle.drg_census.specs.Census.{InCensus, IsCensus, IsWithinLimits}

-- The numbers of each array of a census fit in 128 bits, with all work numbers of their formulas.
abbrev pub AllFit : Type 0
AllFit = (d k n : ℕ) (a : Entries) (node : Node) → IsWithinLimits d k n → InCensus d k n a → IsNode a node → Fits a node

-- A census is one list.
abbrev pub OneCensus : Type 0
OneCensus = (d k n : ℕ) (arrays others : List Entries) → IsCensus d k n arrays → IsCensus d k n others → arrays ≡ others
