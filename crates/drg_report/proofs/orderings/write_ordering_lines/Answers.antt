use Rattle.std.proofs.Common.{ℕ, List, subst}
use Rattle.drg_algebra.specs.Beginnings.{BeginsWith}
use Rattle.drg_report.specs.OrderingTexts.{ordering_line}
use Rattle.drg_report.proofs.Appends.{item-begins}
use Rattle.drg_report.proofs.orderings.write_ordering_lines.Goals as goal

pub returns-in_err-write_ordering_line-clause-err : goal.returns-in_err-write_ordering_line-clause-err
returns-in_err-write_ordering_line-clause-err c =
    let word = c.args.word.now in
    let ordering = c.ordering-item.result in
    let part = subst (λ (order : List ℕ). BeginsWith (ordering_line word order) c.orderings.out.items c.write_ordering_line.new.out.items) c.ordering-item.is c.in_err-write_ordering_line.ensures.err in
    item-begins _ (ordering_line word) c.args.orderings.now c.orderings.ordering-index ordering _ c.orderings-test.true c.orderings.invariant part
