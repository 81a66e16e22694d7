use Rattle.std.proofs.Common.{◌≢◌, ◌∷◌, length, sym, ap, ◌∙◌}
use Rattle.std.specs.Str.Lines.{lines}
use Rattle.drg_algebra.proofs.Tests.{differ}
use Rattle.drg_edges.proofs.Lines.{nothing, lines-first, lines-last}
use Rattle.drg_edges.proofs.reading.next_line.Goals as goal

pub returns-in-Some-clause-whole : goal.returns-in-Some-clause-whole
returns-in-Some-clause-whole c =
    ap lines c.in-Some.ensures.whole ∙ (lines-first c.in-Some.line.now c.in-Some.rest.now c.in-Some.ensures.before ∙ ap (λ x. x ∷ lines c.in-Some.rest.now) (sym c.without_return.ensures))

pub returns-in-None-clause-whole : goal.returns-in-None-clause-whole
returns-in-None-clause-whole c =
    let bytes = c.args.bytes.now in
    let some : length bytes ≢ 0 = differ (length bytes) 0 (sym c.if-is_empty.ensures) in
    let last = lines-last bytes c.in-None.ensures.none (λ e. some (ap length e)) in
    last ∙ ap (λ x. bytes ∷ lines x) (sym (nothing bytes))
