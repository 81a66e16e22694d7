use Rattle.std.proofs.Common.{refl}
use Rattle.drg_sample.proofs.Counts.{tests_next}
use Rattle.drg_sample.proofs.summary.write_tests.Goals as goal

pub tests-preserved : goal.tests-preserved
tests-preserved c =
    tests_next c.args.all.now c.args.out.now.items c.tests.out.items c.write_test.new.out.items c.tests.test-index _ _ c.tests-test.true c.tests.invariant c.in_ok-write_test.ensures refl
