use Rattle.std.proofs.Common.{[], ◌∷◌, refl, sym, ◌∙◌, append-nil}
use Rattle.drg_algebra.proofs.Beginnings.{begins_last, stops}
use Rattle.drg_report.proofs.tables.write_spaced_value.Goals as goal

pub returns-in_err-push-clause-err : goal.returns-in_err-push-clause-err
returns-in_err-push-clause-err g c =
    stops _ c.args.out.now.items [] _ (c.in_err-push.ensures.items ∙ sym (append-nil c.args.out.now.items)) refl

pub returns-clause-err : goal.returns-clause-err
returns-clause-err g c =
    begins_last _ c.args.out.now.items (32 ∷ []) _ _ c.write_value.ensures.err c.in_ok-push.ensures.items refl
