use Rattle.std.proofs.Common.{◌≡◌, ℕ, suc, ◌+◌, sym, subst, arith}
use Rattle.drg_triples.specs.LiveTypes.{AreLiveBefore}
use Rattle.drg_triples.proofs.TypeLists.{live_none, live_all}
use Rattle.drg_triples.proofs.live_types.types.Goals as goal

pub firsts-init : goal.firsts-init
firsts-init c = live_none c.args.numbers.now c.new-found.result.items c.new-found.ensures.items

pub firsts-preserved : goal.firsts-preserved
firsts-preserved c =
    let place : c.firsts.u + 1 ≡ suc c.firsts.u = omega arith in
    subst (λ (m : ℕ). AreLiveBefore c.args.numbers.now m 0 0 c.add_first.new.found.items) (sym place) c.in_ok-add_first.ensures

pub returns : goal.returns
returns c = live_all c.args.numbers.now c.firsts.u c.firsts.found.items (omega arith) c.firsts.invariant
