use Rattle.std.proofs.Common.{◌≡◌, ◌++◌, suc, pos, ◌∙◌, ap, append_assoc, to_z, of_z, rules}
use Rattle.std.specs.Int.{w128}
use Rattle.std.specs.Fmt.{signed_decimal}
use Rattle.std.proofs.lemmas.Int.{to_z-of_z}
use Rattle.std.specs.Prelude.{codes, decimal}
use Rattle.drg_algebra.proofs.Beginnings.{begins}
use Rattle.drg_intersection.specs.Numbers.{n_of}
use Rattle.drg_report.specs.Texts.{sizes_text}
use Rattle.drg_report.proofs.Appends.{onward}
use Rattle.drg_report.proofs.report.write_numbers_lines.Goals as goal

pub returns-in_err-write_sizes-clause-err : goal.returns-in_err-write_sizes-clause-err
returns-in_err-write_sizes-clause-err c =
    let old = c.args.out.now.items in
    let numbers = c.args.numbers.now in
    let n = decimal (n_of numbers) in
    let value : to_z w128 (of_z w128 c.n.result) ≡ pos (n_of numbers) = to_z-of_z w128 _ (search rules) ∙ c.n.ensures in
    let bytes : c.as_bytes.result.now ≡ n = c.as_bytes.ensures.value ∙ (c.format.ensures.text ∙ ap signed_decimal value) in
    let written = c.in_ok-extend_from_slice-2.ensures.items ∙ ap (λ x. c.extend_from_slice.new.self.items ++ x) bytes in
    let two = onward old (codes "n ") n c.in_ok-extend_from_slice.ensures.items written in
    let three = onward old (codes "n " ++ n) (codes "\nsizes") two c.in_ok-extend_from_slice-3.ensures.items in
    begins _ old ((codes "n " ++ n) ++ codes "\nsizes") (codes "\n") c.in_err-write_sizes.ensures.err three
    (append_assoc ((codes "n " ++ n) ++ codes "\nsizes") (sizes_text numbers (suc numbers.d)) (codes "\n"))
