use Rattle.std.proofs.Common.{◌≡◌, ◌≤◌, take}
use Rattle.drg_sample.specs.Summary.{count_of}
use Rattle.drg_sample.proofs.summary.count_of.Given as goal

abbrev pub invariant-all : goal.invariant-all
invariant-all l = (l.count ≡ count_of l.fn.found (take l.other-index l.fn.all)) × (l.count ≤ l.other-index)
