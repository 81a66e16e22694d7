use Rattle.std.proofs.Common.{ap, sym, ◌∙◌, append_assoc}
use Rattle.std.specs.Prelude.{codes}
use Rattle.drg_algebra.proofs.Beginnings.{begins}
use Rattle.drg_report.specs.OrderingTexts.{indices_text, ordering_line}
use Rattle.drg_report.proofs.orderings.write_ordering_line.Goals as goal

pub returns-in_err-write_indices-clause-err : goal.returns-in_err-write_indices-clause-err
returns-in_err-write_indices-clause-err c =
    let word = c.args.word.now in
    let whole = ap (ordering_line word) (sym c.as_slice.ensures) ∙ append_assoc word (indices_text c.as_slice.result.now) (codes "\n") in
    begins _ c.args.out.now.items word (codes "\n") c.in_err-write_indices.ensures.err c.in_ok-extend_from_slice.ensures.items whole
