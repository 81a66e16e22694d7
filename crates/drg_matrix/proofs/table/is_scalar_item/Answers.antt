use Rattle.std.proofs.Common.{◌≡◌, ap, sym, ◌∙◌}
use Rattle.drg_algebra.specs.Tables.{delta}
use Rattle.drg_algebra.proofs.Totals.{delta_same, delta_other}
use Rattle.drg_matrix.proofs.table.is_scalar_item.Goals as goal

pub returns-then-at-place : goal.returns-then-at-place
returns-then-at-place g c =
    let f = g.F.Field in
    let v = f.value c.args.v in
    let nil = (f.operations (f.root_of c.args.v)).nil in
    let e : delta nil v c.args.place c.args.at ≡ v = ap (delta nil v c.args.place) c.if-at-place.true ∙ delta_same nil v c.args.place in
    (λ t. c.same.ensures.0 t ∙ sym e, λ p. c.same.ensures.1 (p ∙ e))

pub returns-else-at-place : goal.returns-else-at-place
returns-else-at-place g c =
    let f = g.F.Field in
    let v = f.value c.args.v in
    let nil = (f.operations (f.root_of c.args.v)).nil in
    let e : delta nil v c.args.place c.args.at ≡ nil = delta_other nil v c.args.place c.args.at (λ p. c.if-at-place.false (sym p)) in
    let zero = rw c.requires at c.is_zero.ensures in
    (λ t. zero.0 t ∙ sym e, λ p. zero.1 (p ∙ e))
