use Rattle.std.proofs.Common.{List, ℕ, length, sym, subst}
use Rattle.drg_orderings.specs.Search.{AllFit, IsTheOrdering}
use Rattle.drg_orderings.proofs.Beginnings.{whole_fits, whole_fails}
use Rattle.drg_orderings.proofs.search.ordering_from.Goals as goal

pub returns-then-not-all_fit : goal.returns-then-not-all_fit
returns-then-not-all_fit g c =
    let d = g.T.ZeroTable.diameter c.args.table.now in
    let Z = g.T.ZeroTable.IsZero c.args.table.now in
    let Fits : List ℕ → Type 0 = λ v. AllFit (length v) Z v in
    whole_fails d Z c.args.first c.in_ok-order.order.items c.in_ok-order.ensures
    (λ fits. let yes = c.all_fit.ensures.1 (subst Fits (sym c.deref.ensures.0) fits) in let no = c.if-not-all_fit.true in cc)

pub returns : goal.returns
returns g c =
    let d = g.T.ZeroTable.diameter c.args.table.now in
    let Z = g.T.ZeroTable.IsZero c.args.table.now in
    let Fits : List ℕ → Type 0 = λ v. AllFit (length v) Z v in
    let Is : List ℕ → Type 0 = λ v. IsTheOrdering d Z c.args.first v in
    subst Is (sym c.of.ensures) (whole_fits d Z c.args.first c.in_ok-order.order.items c.in_ok-order.ensures
    (subst Fits c.deref.ensures.0 (c.all_fit.ensures.0 c.if-not-all_fit.false)))
