use Rattle.std.proofs.Common.{[], ◌∷◌, ◌++◌, refl, ap, ◌∙◌, inl}
use Rattle.drg_report.specs.declared.verdict.Cause.TheVariants.{Wide}
use Rattle.drg_engine.proofs.ClaimFacts.{before_wide, part_early}
use Rattle.drg_engine.proofs.Decisions.{stopped}
use Rattle.drg_engine.proofs.TestOrder.{all_before}
use Rattle.drg_engine.proofs.judging.undecided_by.Goals as goal

pub returns : goal.returns
returns c = λ a no_basic wide.
    let last = c.in_ok-test.test in
    let node = c.args.node in
    let part = c.in_ok-test.ensures.part a wide.is_node in
    let course = c.in_ok-test.ensures.course in
    let entry = c.in_ok-push.ensures.ok ∙ ap (λ ps. ps ++ record { test = last; cause = Wide node } ∷ []) course.none_pending in
    inl (stopped c.built_law.ensures.holds a c.args.tests.now _ last node wide (part, entry) (part_early last node part)
    (all_before c.args.tests.now _ c.pass_up_to_node.new.course.passed last c.in_ok-test.ensures.next course.passed) refl
    (before_wide a no_basic last node part wide))
