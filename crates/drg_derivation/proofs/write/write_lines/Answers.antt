use Rattle.drg_derivation.proofs.TextLaws.{evidence-begin, written-push}
use Rattle.drg_derivation.proofs.write.write_lines.Goals as goal

pub lines-preserved : goal.lines-preserved
lines-preserved c =
    written-push _ _ _ c.args.lines.now c.lines.line-index c.line-item.result c.lines-test.true c.line-item.is c.lines.invariant c.in_ok-write_line.ensures.ok

pub returns-in_err-write_line-clause-err : goal.returns-in_err-write_line-clause-err
returns-in_err-write_line-clause-err c =
    evidence-begin _ _ _ _ c.args.lines.now c.lines.line-index c.line-item.result c.in_err-write_line.ensures.err c.lines.invariant c.lines-test.true c.line-item.is
