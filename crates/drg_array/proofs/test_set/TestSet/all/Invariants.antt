use Rattle.std.proofs.Common.{◌≡◌, take}
use Rattle.drg_array.specs.declared.test_set.TheConstants.{BUILT}
use Rattle.drg_array.proofs.test_set.TestSet.all.Given as goal

abbrev pub invariant-tests : goal.invariant-tests
invariant-tests l = l.selected.items ≡ take l.test-index BUILT
