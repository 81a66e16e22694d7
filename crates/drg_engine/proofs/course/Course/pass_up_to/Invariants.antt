use Rattle.std.proofs.Common.{◌≡◌, ◌+◌, []}
use Rattle.drg_engine.specs.Courses.{RunsWithin}
use Rattle.drg_engine.specs.Selections.{AreTests}
use Rattle.drg_engine.proofs.course.Course.pass_up_to.Given as goal

abbrev pub invariant-tests : goal.invariant-tests
invariant-tests l = record {
  passed : AreTests (RunsWithin l.tests (l.initial.self.decided + l.test-index)) l.self.passed;
  none_pending : l.self.pending ≡ [];
  same : l.self.decided ≡ l.initial.self.decided;
}
