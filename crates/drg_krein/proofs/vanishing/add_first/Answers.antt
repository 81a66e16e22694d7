use Rattle.std.proofs.Common.{◌≡◌, ℕ, suc, ◌+◌, refl, sym, subst, arith}
use Rattle.drg_krein.specs.Vanishing.{AreVanishingBefore}
use Rattle.drg_krein.proofs.VanishingLists.{vanishing_first, vanishing_all_of}
use Rattle.drg_krein.proofs.vanishing.add_first.Goals as goal

pub seconds-init : goal.seconds-init
seconds-init g c =
    let f = g.F.Field in
    vanishing_first f.value f.operations c.args.krein.now c.args.i c.args.found.now.items c.requires.before

pub seconds-preserved : goal.seconds-preserved
seconds-preserved g c =
    let f = g.F.Field in
    let place : c.seconds.j + 1 ≡ suc c.seconds.j = omega arith in
    subst (λ (m : ℕ). AreVanishingBefore f.value f.operations c.args.krein.now c.args.i m 0 c.add_pair.new.found.items) (sym place) c.in_ok-add_pair.ensures

pub returns : goal.returns
returns g c =
    let f = g.F.Field in
    vanishing_all_of f.value f.operations c.args.krein.now c.args.i c.seconds.j (suc c.args.i) c.seconds.found.items (omega arith) refl c.seconds.invariant
