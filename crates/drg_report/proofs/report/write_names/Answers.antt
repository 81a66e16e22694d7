use Rattle.std.proofs.Common.{[], ◌∷◌, ◌∙◌, refl}
use Rattle.drg_array.specs.Claims.{test_name}
use Rattle.drg_array.specs.declared.test.Test.TheVariants.{First}
use Rattle.drg_report.proofs.Appends.{nothing, item-begins}
use Rattle.drg_report.proofs.report.write_names.Goals as goal

pub returns-in_err-push-clause-err : goal.returns-in_err-push-clause-err
returns-in_err-push-clause-err c =
    item-begins _ (λ t. 32 ∷ test_name t) c.args.tests.now c.tests.test-index First _ c.tests-test.true c.tests.invariant (nothing _ _ c.in_err-push.ensures.items)

pub returns-in_err-write_text-clause-err : goal.returns-in_err-write_text-clause-err
returns-in_err-write_text-clause-err c =
    item-begins _ (λ t. 32 ∷ test_name t) c.args.tests.now c.tests.test-index First _ c.tests-test.true c.tests.invariant
    (record { written = 32 ∷ []; rest = test_name _; whole = refl; now = c.in_err-write_text.ensures.err ∙ c.in_ok-push.ensures.items })
