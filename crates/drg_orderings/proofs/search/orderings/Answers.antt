use Rattle.std.proofs.Common.{◌≡◌, ℕ, ◌+◌, List, sym, subst, arith}
use Rattle.drg_orderings.specs.Orderings.{AreOrderings}
use Rattle.drg_orderings.specs.Search.{IsTheOrdering, NoneBegins}
use Rattle.drg_orderings.proofs.Found.{IsBelow, none_below, one_more, no_more, all_below}
use Rattle.drg_orderings.proofs.search.orderings.Goals as goal
use Rattle.drg_orderings.proofs.search.orderings.Goals.{in-Some+in_ok-push, in_default}

pub firsts-init : goal.firsts-init
firsts-init g c =
    let d = g.T.ZeroTable.diameter c.args.table.now in
    let Z = g.T.ZeroTable.IsZero c.args.table.now in
    let Are : List (List ℕ) → Type 0 = λ v. AreOrderings (IsBelow d Z 1) v in
    subst Are (sym c.new-found.ensures.items) (none_below d Z)

pub firsts-preserved : goal.firsts-preserved
firsts-preserved g c =
    let d = g.T.ZeroTable.diameter c.args.table.now in
    let Z = g.T.ZeroTable.IsZero c.args.table.now in
    let n = c.firsts.first in
    let found = c.firsts.found.items in
    elim c.match-ordering_from.branch [
      | in-Some+in_ok-push w ↦
          (let Is : ℕ → Type 0 = λ m. IsTheOrdering d Z m w.in-Some.ordering in
          rw (w.found-is, w.in_ok-push.ensures.items)
          (one_more d Z n found w.in-Some.ordering c.firsts.invariant (subst Is c.small.ensures w.in-Some.ensures)))
      | in_default w ↦
          (let None : ℕ → Type 0 = λ m. NoneBegins d Z m in
          rw w.found-is (no_more d Z n found c.firsts.invariant (subst None c.small.ensures w.in_default.ensures)))
    ]

pub returns : goal.returns
returns g c =
    let d = g.T.ZeroTable.diameter c.args.table.now in
    let Z = g.T.ZeroTable.IsZero c.args.table.now in
    let end : c.firsts.first ≡ d + 1 = omega arith in
    let Below : ℕ → Type 0 = λ m. AreOrderings (IsBelow d Z m) c.firsts.found.items in
    rw c.of.ensures (all_below d Z c.firsts.found.items (subst Below end c.firsts.invariant))
