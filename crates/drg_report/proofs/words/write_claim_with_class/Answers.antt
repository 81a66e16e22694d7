use Rattle.std.proofs.Common.{[], ◌++◌, sym, ◌∙◌, append_assoc, append-nil}
use Rattle.std.specs.Prelude.{codes}
use Rattle.drg_algebra.proofs.Beginnings.{begins, stops}
use Rattle.drg_array.specs.Claims.{claim_text, class_name}
use Rattle.drg_report.proofs.words.write_claim_with_class.Goals as goal

pub returns-in_err-write_text-clause-err : goal.returns-in_err-write_text-clause-err
returns-in_err-write_text-clause-err c =
    let old = c.args.out.now.items in
    begins _ old [] (codes " " ++ class_name c.args.class) c.in_err-write_text.ensures.err (sym (append-nil old))
    (append_assoc (claim_text c.args.claim) (codes " ") (class_name c.args.class))

pub returns-in_err-extend_from_slice-clause-err : goal.returns-in_err-extend_from_slice-clause-err
returns-in_err-extend_from_slice-clause-err c =
    stops _ c.args.out.now.items (claim_text c.args.claim) (codes " " ++ class_name c.args.class) (c.in_err-extend_from_slice.ensures.items ∙ c.in_ok-write_text.ensures.ok)
    (append_assoc (claim_text c.args.claim) (codes " ") (class_name c.args.class))
