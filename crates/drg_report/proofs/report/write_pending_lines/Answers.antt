use Rattle.drg_report.specs.Texts.{pending_line}
use Rattle.drg_report.proofs.Appends.{item-begins}
use Rattle.drg_report.proofs.report.write_pending_lines.Goals as goal

pub returns-in_err-write_pending_line-clause-err : goal.returns-in_err-write_pending_line-clause-err
returns-in_err-write_pending_line-clause-err c =
    item-begins _ pending_line c.args.pending.now c.entries.entry-index _ _ c.entries-test.true c.entries.invariant c.in_err-write_pending_line.ensures.err
