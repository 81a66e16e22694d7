use Rattle.std.proofs.Common.{[], ◌∷◌, ◌++◌, ap, ◌∙◌, subst}
use Rattle.drg_array.specs.declared.test.Test.TheVariants as test
use Rattle.drg_report.specs.declared.verdict.Cause.TheVariants.{Spectrum}
use Rattle.drg_engine.specs.Courses.{RunsWithin}
use Rattle.drg_engine.specs.Selections.{AreTests}
use Rattle.drg_engine.proofs.Decisions.{refused}
use Rattle.drg_engine.proofs.judging.refused_by.Goals as goal

pub returns : goal.returns
returns c = λ a tests course runs pass none has.
    let entry = c.in_ok-push.ensures.ok ∙ ap (λ ps. ps ++ record { test = test.Mult; cause = Spectrum } ∷ []) course.none_pending in
    let within = subst (λ n. AreTests (RunsWithin tests n) c.args.course.passed) c.requires.decided course.passed in
    refused c.built_law.ensures.holds a tests pass none runs _ within has entry
