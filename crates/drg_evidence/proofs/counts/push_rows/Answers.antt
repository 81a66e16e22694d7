use Rattle.std.proofs.Common.{arith, ◌≡◌, suc, ◌+◌, ◌-◌, [], ◌∷◌, ◌++◌, subst, sym}
use Rattle.drg_evidence.specs.Lines.{AreRowLines, IsRowLine}
use Rattle.drg_evidence.proofs.LineLists.{items_push, rows_push}
use Rattle.drg_evidence.proofs.counts.push_rows.Goals as goal

pub rows-preserved : goal.rows-preserved
rows-preserved c = λ a are.
    let before = c.rows.invariant a are in
    let line = c.in_ok-row_line.field-0 in
    let here : 1 + (c.rows.l - 1) ≡ c.rows.l = omega (arith, c.rows.auto.l) in
    let next : suc (c.rows.l - 1) ≡ c.rows.l + 1 - 1 = omega (arith, c.rows.auto.l) in (
      before.0 ++ line ∷ [],
      items_push c.args.lines.now.items before.0 c.rows.lines.items c.push.new.self.items line before.1 c.in_ok-push.ensures.items,
      subst (λ m. AreRowLines a c.args.h 1 m (before.0 ++ line ∷ [])) next
          (rows_push a c.args.h 1 (c.rows.l - 1) before.0 line before.2 (subst (λ n. IsRowLine a c.args.h n line) (sym here) (c.in_ok-row_line.ensures a are))),
    )

pub returns : goal.returns
returns c = λ a are.
    let all : c.rows.l - 1 ≡ c.args.i - 1 = omega (arith, c.rows-test.false, c.rows.auto.l-end, c.requires.low) in
    let before = c.rows.invariant a are in
    (before.0, before.1, subst (λ m. AreRowLines a c.args.h 1 m before.0) all before.2)
