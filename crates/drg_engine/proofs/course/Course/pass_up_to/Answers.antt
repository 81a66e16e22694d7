use Rattle.std.proofs.Common.{arith, ◌≡◌, ◌≤◌, ◌<◌, ◌+◌, ◌-◌, suc, get_or, take, drop, refl, sym, ap, subst, ◌∙◌}
use Rattle.std.proofs.lemmas.Bool.{false≢true}
use Rattle.drg_array.specs.declared.test.Test.TheVariants.{First}
use Rattle.drg_array.specs.declared.test.TheConstants.Test.{ALL}
use Rattle.drg_engine.specs.Courses.{RunsWithin}
use Rattle.drg_engine.specs.Selections.{AreTests, Runs}
use Rattle.drg_engine.proofs.BuiltTests.{each_runs}
use Rattle.drg_engine.proofs.TestOrder.{left_out, length_between, number_at, taken, to_fourteen}
use Rattle.drg_engine.proofs.course.Course.pass_up_to.Goals as goal
use Rattle.drg_engine.proofs.course.Course.pass_up_to.Goals.{then-has+in_ok-push, else-has}

pub tests-init : goal.tests-init
tests-init c = record {
  passed = subst (λ n. AreTests (RunsWithin c.args.tests.now n) c.args.self.now.passed) (omega arith) c.requires.course.passed;
  none_pending = c.requires.course.none_pending;
  same = refl;
}

pub tests-preserved : goal.tests-preserved
tests-preserved c =
    let tests = c.args.tests.now in
    let m = c.args.self.now.decided in
    let end = c.from-end.result in
    let i = c.tests.test-index in
    let test = get_or (take (c.from-end.result - c.args.self.now.decided) (drop c.args.self.now.decided ALL)) c.tests.test-index First in
    let last = to_fourteen c.args.last in
    let top : c.from-end.result ≤ 14 = omega (arith, c.from-end.ensures, c.number.ensures, last) in
    let long = length_between c.args.self.now.decided c.from-end.result top in
    let inside : c.args.self.now.decided + c.tests.test-index < c.from-end.result = omega (arith, c.tests-test.true, long) in
    let number = number_at m end i top inside in
    let one : suc (c.args.self.now.decided + c.tests.test-index) ≡ c.args.self.now.decided + (c.tests.test-index + 1) = omega arith in
    elim c.if-has.branch [
      | then-has+in_ok-push w ↦ record {
        passed = subst (λ n. AreTests (RunsWithin tests n) c.if-has.self.passed) one
            (subst (λ ts. AreTests (RunsWithin tests (suc (m + i))) ts) (sym (ap (λ s. s.passed) w.self-is ∙ w.in_ok-push.ensures.ok))
            (taken tests (m + i) c.tests.self.passed test c.tests.invariant.passed number (each_runs tests test w.if-has.ensures.selection (w.if-has.ensures.runs.0 refl))));
        none_pending = ap (λ s. s.pending) w.self-is ∙ c.tests.invariant.none_pending;
        same = ap (λ s. s.decided) w.self-is ∙ c.tests.invariant.same;
      }
      | else-has w ↦ record {
        passed = subst (λ n. AreTests (RunsWithin tests n) c.if-has.self.passed) one
            (subst (λ ts. AreTests (RunsWithin tests (suc (m + i))) ts) (sym (ap (λ s. s.passed) w.self-is))
            (left_out tests (m + i) c.tests.self.passed test c.tests.invariant.passed number (λ (runs : Runs tests test). false≢true (w.if-has.ensures.runs.1 runs.1))));
        none_pending = ap (λ s. s.pending) w.self-is ∙ c.tests.invariant.none_pending;
        same = ap (λ s. s.decided) w.self-is ∙ c.tests.invariant.same;
      }
    ]

pub returns-clause-course : goal.returns-clause-course
returns-clause-course c =
    let last = to_fourteen c.args.last in
    let top : c.from-end.result ≤ 14 = omega (arith, c.from-end.ensures, c.number.ensures, last) in
    let long = length_between c.args.self.now.decided c.from-end.result top in
    let all : c.args.self.now.decided + c.tests.test-index ≡ c.from-end.result =
    omega (arith, c.tests-test.false, c.tests.auto.test-index-end, long, c.requires.later, c.from-end.ensures, c.number.ensures) in
    record {
      passed = subst (λ n. AreTests (RunsWithin c.args.tests.now n) c.tests.self.passed) all c.tests.invariant.passed;
      none_pending = c.tests.invariant.none_pending;
    }
