use Rattle.std.proofs.Common.{[], ◌∷◌, ◌++◌, refl, ap, ◌∙◌, subst, inr}
use Rattle.drg_array.specs.declared.test.Test.TheVariants as test
use Rattle.drg_report.specs.declared.verdict.Cause.TheVariants.{Wide}
use Rattle.drg_engine.specs.Courses.{RunsWithin}
use Rattle.drg_engine.specs.Selections.{AreTests}
use Rattle.drg_engine.proofs.Decisions.{left_open}
use Rattle.drg_engine.proofs.judging.wide_frame.Goals as goal

pub returns : goal.returns
returns c = λ a tests course runs pass none wide.
    let node = c.args.node in
    let entry = c.in_ok-push.ensures.ok ∙ ap (λ ps. ps ++ record { test = test.Mult; cause = Wide node } ∷ []) course.none_pending in
    let within = subst (λ n. AreTests (RunsWithin tests n) c.args.course.passed) c.requires.decided course.passed in
    inr (left_open c.built_law.ensures.holds a tests pass none runs _ node within wide entry refl)
