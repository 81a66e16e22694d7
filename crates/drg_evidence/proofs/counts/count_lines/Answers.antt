use Rattle.std.proofs.Common.{◌-◌, subst, sym}
use Rattle.std.proofs.lemmas.Result.{IfOk-weaker}
use Rattle.drg_array.specs.Entries.{Entries}
use Rattle.drg_intersection.specs.FirstNumbers.{AreFirstNumbers}
use Rattle.drg_evidence.specs.Lines.{AreLinesOf, AreRowLines, HasNumbersOf}
use Rattle.drg_evidence.proofs.LineLists.{lines_of_intersect}
use Rattle.drg_evidence.proofs.counts.count_lines.Goals as goal

pub returns-in-Intersect : goal.returns-in-Intersect
returns-in-Intersect c =
    let first = c.args.first.now in
    let at = c.in-Intersect in
    let made = subst (HasNumbersOf c.args.first.now) at.is c.requires.made in
    IfOk-weaker c.row_lines.result (λ lines. (a : Entries) → AreFirstNumbers a first → AreRowLines a at.h 1 (c.from-in-Intersect.result - 1) lines.items)
    (λ lines. (a : Entries) → AreFirstNumbers a first → AreLinesOf a c.args.claim lines.items)
    (λ lines rows a are. subst (λ claim. AreLinesOf a claim lines.items) (sym at.is)
    (lines_of_intersect a at.h at.i at.j lines.items made.1 (subst (λ n. AreRowLines a at.h 1 (n - 1) lines.items) c.from-in-Intersect.ensures (rows a are))))
    c.row_lines.ensures
