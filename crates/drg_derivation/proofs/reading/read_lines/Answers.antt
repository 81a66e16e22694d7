use Rattle.std.proofs.Common.{arith, rules}
use Rattle.std.proofs.lemmas.Grind.{common_steps}
use Rattle.drg_derivation.specs.Faults.{IsStop}
use Rattle.drg_derivation.proofs.ReadingLaws.{stop-after, hands-line, hands-end}
use Rattle.drg_derivation.proofs.reading.read_lines.Goals as goal

pub returns-in_err-line-clause-refused : goal.returns-in_err-line-clause-refused
returns-in_err-line-clause-refused c =
    let h : IsStop c.args.reader.now c.in_err-line.field-0.0 = stop-after _ _ _ _ c.lines.invariant.hands c.in_err-line.ensures.refused in
    first_of (search (rules, h), grind (arith, common_steps, h))

pub lines-preserved : goal.lines-preserved
lines-preserved c =
    let all = hands-line _ _ _ _ _ _ _ c.lines.invariant.hands c.lines.invariant.among c.in_ok-line.ensures.ok c.in-Evidence.is c.in_ok-push_line-in-Evidence.ensures in
    record { hands = all.hands; among = all.among }

pub returns-in-End-clause-ok : goal.returns-in-End-clause-ok
returns-in-End-clause-ok c = hands-end _ _ _ _ _ c.lines.invariant.hands c.in_ok-line.ensures.ok c.in-End.is
