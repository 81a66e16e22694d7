use Rattle.std.proofs.Common.{◌≡◌, ◌++◌, take}
use Rattle.std.specs.List.{flat_map}
use Rattle.drg_array.specs.declared.test.TheConstants.Test.{ALL}
use Rattle.drg_sample.specs.Summary.{test_line}
use Rattle.drg_sample.proofs.summary.write_tests.Given as goal

abbrev pub invariant-tests : goal.invariant-tests
invariant-tests l = l.out.items ≡ l.fn.out.items ++ flat_map (test_line l.fn.all) (take l.test-index ALL)
