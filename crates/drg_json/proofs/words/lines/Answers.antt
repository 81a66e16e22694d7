use Rattle.std.proofs.Common.{◌≡◌, suc, List, ◌∷◌, ◌++◌, map, rules, refl, sym, ap, ◌∙◌, subst}
use Rattle.std.specs.Prelude.{IsAscii}
use Rattle.serde_json.specs.Data.{Data, string}
use Rattle.serde_json.specs.View.{view}
use Rattle.drg_json.proofs.Lines.{AreTaken, all-taken, ascii_back, one-taken}
use Rattle.drg_json.proofs.Steps.{listed, pushed}
use Rattle.drg_json.proofs.words.lines.Goals as goal

pub lines-preserved : goal.lines-preserved
lines-preserved c =
    let line = c.in-Some.line.now in
    let more = c.in-Some.more.now in
    let rest = c.lines.rest.now in
    let taken = map view c.lines.list.items in
    let whole : rest ≡ line ++ 10 ∷ more = c.in-Some.ensures.whole in
    let copy : c.in_ok-to_vec.field-0.items ≡ line = search rules in
    let now = pushed c.lines.list.items taken c.text_of.result (string line) refl c.in_ok-push.ensures.items (c.text_of.ensures ∙ ap string copy) in
    record {
      ascii = λ i. ascii_back line (10 ∷ more) (subst IsAscii whole c.lines.invariant.ascii) (suc i);
      taken = λ lines are. subst (λ (items : List Data). AreTaken items more lines) (sym now) (one-taken rest line more taken lines (c.lines.invariant.taken lines are) c.in-Some.ensures.line whole);
    }

pub returns : goal.returns
returns c lines are =
    listed c.lines.list (map string lines)
    (all-taken c.lines.rest.now (map view c.lines.list.items) lines (c.lines.invariant.taken lines are) c.in_default.ensures.none)
