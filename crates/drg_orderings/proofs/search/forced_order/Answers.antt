use Rattle.std.proofs.Common.{ℕ, ◌<◌, List, length, sym, subst, arith}
use Rattle.drg_orderings.specs.Search.{CanFollow, IsBeginning}
use Rattle.drg_orderings.proofs.Beginnings.{more_begins, none_follows}
use Rattle.drg_orderings.proofs.search.forced_order.Goals as goal

pub returns-in_err-next : goal.returns-in_err-next
returns-in_err-next g c =
    let d = g.T.ZeroTable.diameter c.args.table.now in
    let Z = g.T.ZeroTable.IsZero c.args.table.now in
    let order = c.walk.order.items in
    let short : length order < d = omega arith in
    let None : List ℕ → Type 0 = λ v. (x : ℕ) → ¬ CanFollow d Z v x in
    rw c.from_residual.ensures (none_follows d Z c.args.first order c.walk.invariant.beginning short
    (subst None c.deref.ensures.0 c.in_err-next.ensures))

pub walk-preserved : goal.walk-preserved
walk-preserved g c =
    let d = g.T.ZeroTable.diameter c.args.table.now in
    let Z = g.T.ZeroTable.IsZero c.args.table.now in
    let order = c.walk.order.items in
    let next = c.in_ok-next.next in
    let short : length order < d = omega arith in
    let Follows : List ℕ → Type 0 = λ v. CanFollow d Z v next in
    let Begins : List ℕ → Type 0 = λ v. IsBeginning d Z c.args.first v in
    record {
      short = omega arith;
      beginning = subst Begins (sym c.push-in-walk.ensures.items)
          (more_begins d Z c.args.first order c.walk.invariant.beginning short next (subst Follows c.deref.ensures.0 c.in_ok-next.ensures));
    }
