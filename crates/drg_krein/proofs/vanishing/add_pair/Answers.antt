use Rattle.std.proofs.Common.{◌≡◌, ℕ, suc, ◌+◌, refl, sym, subst, arith}
use Rattle.drg_krein.specs.Vanishing.{AreVanishingBefore}
use Rattle.drg_krein.proofs.VanishingLists.{vanishing_second, vanishing_pair}
use Rattle.drg_krein.proofs.vanishing.add_pair.Goals as goal

pub thirds-init : goal.thirds-init
thirds-init g c =
    let f = g.F.Field in
    vanishing_second f.value f.operations c.args.krein.now c.args.i c.args.j c.args.found.now.items c.requires.before

pub thirds-preserved : goal.thirds-preserved
thirds-preserved g c =
    let f = g.F.Field in
    let place : c.thirds.h + 1 ≡ suc c.thirds.h = omega arith in
    subst (λ (m : ℕ). AreVanishingBefore f.value f.operations c.args.krein.now c.args.i c.args.j m c.add_if_vanishing.new.found.items) (sym place) c.in_ok-add_if_vanishing.ensures

pub returns : goal.returns
returns g c =
    let f = g.F.Field in
    vanishing_pair f.value f.operations c.args.krein.now c.args.i c.args.j c.thirds.h (suc c.args.j) c.thirds.found.items (omega arith) refl c.thirds.invariant
