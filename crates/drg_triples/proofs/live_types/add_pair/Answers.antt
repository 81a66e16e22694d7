use Rattle.std.proofs.Common.{◌≡◌, ℕ, suc, ◌+◌, refl, sym, subst, arith}
use Rattle.drg_triples.specs.LiveTypes.{AreLiveBefore}
use Rattle.drg_triples.proofs.TypeLists.{live_second, live_pair}
use Rattle.drg_triples.proofs.live_types.add_pair.Goals as goal

pub thirds-init : goal.thirds-init
thirds-init c = live_second c.args.numbers.now c.args.u c.args.v c.args.found.now.items c.requires.before

pub thirds-preserved : goal.thirds-preserved
thirds-preserved c =
    let place : c.thirds.w + 1 ≡ suc c.thirds.w = omega arith in
    subst (λ (m : ℕ). AreLiveBefore c.args.numbers.now c.args.u c.args.v m c.add_if_live.new.found.items) (sym place) c.in_ok-add_if_live.ensures

pub returns : goal.returns
returns c = live_pair c.args.numbers.now c.args.u c.args.v c.thirds.w (suc c.args.v) c.thirds.found.items (omega arith) refl c.thirds.invariant
