use Rattle.std.proofs.Common.{◌∙◌, append_assoc}
use Rattle.std.specs.Prelude.{codes}
use Rattle.drg_algebra.proofs.Beginnings.{begins}
use Rattle.drg_array.specs.Claims.{claim_text}
use Rattle.drg_derivation.proofs.TextLaws.{plain-claim}
use Rattle.drg_derivation.proofs.write.write_claim.Goals as goal

pub returns-in_err-write_text-clause-err : goal.returns-in_err-write_text-clause-err
returns-in_err-write_text-clause-err c =
    begins _ _ (codes "claim ") (codes "\n") c.in_err-write_text.ensures.err c.in_ok-extend_from_slice.ensures.items
    (plain-claim c.args.claim.now ∙ append_assoc (codes "claim ") (claim_text c.args.claim.now) (codes "\n"))
