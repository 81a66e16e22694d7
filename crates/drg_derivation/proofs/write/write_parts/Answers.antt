use Rattle.std.proofs.Common.{◌++◌, ap, ◌∙◌, append_assoc, refl}
use Rattle.std.specs.Prelude.{codes}
use Rattle.drg_algebra.proofs.Beginnings.{begins}
use Rattle.drg_derivation.specs.Text.{evidence_views, line_text, written_texts}
use Rattle.drg_derivation.specs.declared.view.LineView.TheVariants.{Array, Claim}
use Rattle.drg_derivation.proofs.TextLaws.{from_array, from_claim, from_evidence, all_but_last}
use Rattle.drg_derivation.proofs.write.write_parts.Goals as goal

pub returns-in_err-write_array-clause-err : goal.returns-in_err-write_array-clause-err
returns-in_err-write_array-clause-err c =
    let a = line_text (Array c.args.array.now) in
    let d = line_text (Claim c.args.claim.now) in
    let l = written_texts (evidence_views c.args.lines.now) in
    begins _ _ (codes "drg 1\n") (d ++ l ++ codes "end\n") c.in_err-write_array.ensures.err c.in_ok-extend_from_slice.ensures.items
    (from_array (codes "drg 1\n") a d l (codes "end\n"))

pub returns-in_err-write_claim-clause-err : goal.returns-in_err-write_claim-clause-err
returns-in_err-write_claim-clause-err c =
    let old = c.args.out.now.items in
    let a = line_text (Array c.args.array.now) in
    let d = line_text (Claim c.args.claim.now) in
    let l = written_texts (evidence_views c.args.lines.now) in
    let before = c.in_ok-write_array.ensures.ok ∙ (ap (λ x. x ++ a) c.in_ok-extend_from_slice.ensures.items ∙ append_assoc old (codes "drg 1\n") a) in
    begins _ old (codes "drg 1\n" ++ a) (l ++ codes "end\n") c.in_err-write_claim.ensures.err before (from_claim (codes "drg 1\n") a d l (codes "end\n"))

pub returns-in_err-write_lines-clause-err : goal.returns-in_err-write_lines-clause-err
returns-in_err-write_lines-clause-err c =
    let old = c.args.out.now.items in
    let a = line_text (Array c.args.array.now) in
    let d = line_text (Claim c.args.claim.now) in
    let l = written_texts (evidence_views c.args.lines.now) in
    let two = c.in_ok-write_array.ensures.ok ∙ (ap (λ x. x ++ a) c.in_ok-extend_from_slice.ensures.items ∙ append_assoc old (codes "drg 1\n") a) in
    let before = c.in_ok-write_claim.ensures.ok ∙ (ap (λ x. x ++ d) two ∙ append_assoc old (codes "drg 1\n" ++ a) d) in
    begins _ old (codes "drg 1\n" ++ a ++ d) (codes "end\n") c.in_err-write_lines.ensures.err before (from_evidence (codes "drg 1\n") a d l (codes "end\n"))

pub returns-clause-err : goal.returns-clause-err
returns-clause-err c =
    let old = c.args.out.now.items in
    let a = line_text (Array c.args.array.now) in
    let d = line_text (Claim c.args.claim.now) in
    let l = written_texts (evidence_views c.args.lines.now) in
    let two = c.in_ok-write_array.ensures.ok ∙ (ap (λ x. x ++ a) c.in_ok-extend_from_slice.ensures.items ∙ append_assoc old (codes "drg 1\n") a) in
    let three = c.in_ok-write_claim.ensures.ok ∙ (ap (λ x. x ++ d) two ∙ append_assoc old (codes "drg 1\n" ++ a) d) in
    let four = c.in_ok-write_lines.ensures.ok ∙ (ap (λ x. x ++ l) three ∙ append_assoc old (codes "drg 1\n" ++ a ++ d) l) in
    all_but_last _ old (codes "drg 1\n" ++ a ++ d ++ l) (codes "end\n") _ _ c.extend_from_slice-2.ensures.items four refl
