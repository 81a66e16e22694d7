use Rattle.std.proofs.Common.{◌≡◌, ◌∷◌, ◌++◌, sym, ap, ◌∙◌}
use Rattle.std.specs.Prelude.{codes}
use Rattle.std.specs.Str.Lines.{lines}
use Rattle.drg_edges.specs.Text.{head_line}
use Rattle.drg_edges.proofs.Numbers.{after_front, same_head_text}
use Rattle.drg_edges.proofs.reading.read_head.Goals as goal

pub returns-then-count-eq0-clause-none : goal.returns-then-count-eq0-clause-none
returns-then-count-eq0-clause-none c =
    let line = c.in_ok-line.line.now in
    let front = c.in_ok-strip_prefix.ensures.cases in
    let whole : line ≡ head_line c.in_ok-count.count =
    after_front line (codes "graph ") c.in_ok-strip_prefix.field-0.now front.0 front.1 ∙ ap (λ ds. codes "graph " ++ ds) c.in_ok-count.ensures.whole in
    λ n rest count e. same_head_text n c.in_ok-count.count line (lines c.in_ok-line.rest.now) rest count c.if-count-eq0.true whole (sym c.in_ok-line.ensures.whole ∙ e)

pub returns-else-count-eq0-clause-whole : goal.returns-else-count-eq0-clause-whole
returns-else-count-eq0-clause-whole c =
    let line = c.in_ok-line.line.now in
    let front = c.in_ok-strip_prefix.ensures.cases in
    let whole : line ≡ head_line c.in_ok-count.count =
    after_front line (codes "graph ") c.in_ok-strip_prefix.field-0.now front.0 front.1 ∙ ap (λ ds. codes "graph " ++ ds) c.in_ok-count.ensures.whole in
    c.in_ok-line.ensures.whole ∙ ap (λ x. x ∷ lines c.in_ok-line.rest.now) whole
