use Rattle.std.proofs.Common.{◌≡◌, ℕ, suc, ◌+◌, sym, subst, arith}
use Rattle.drg_krein.specs.Vanishing.{AreVanishingBefore}
use Rattle.drg_krein.proofs.VanishingLists.{vanishing_none, vanishing_all}
use Rattle.drg_krein.proofs.vanishing.vanishing_of.Goals as goal

pub firsts-init : goal.firsts-init
firsts-init g c =
    let f = g.F.Field in
    vanishing_none f.value f.operations c.args.krein.now c.new-found.result.items c.new-found.ensures.items

pub firsts-preserved : goal.firsts-preserved
firsts-preserved g c =
    let f = g.F.Field in
    let place : c.firsts.i + 1 ≡ suc c.firsts.i = omega arith in
    subst (λ (m : ℕ). AreVanishingBefore f.value f.operations c.args.krein.now m 0 0 c.add_first.new.found.items) (sym place) c.in_ok-add_first.ensures

pub returns : goal.returns
returns g c =
    let f = g.F.Field in
    vanishing_all f.value f.operations c.args.krein.now c.firsts.i c.firsts.found.items (omega arith) c.firsts.invariant
