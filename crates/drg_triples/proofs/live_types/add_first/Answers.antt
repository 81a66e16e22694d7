use Rattle.std.proofs.Common.{◌≡◌, ℕ, suc, ◌+◌, refl, sym, subst, arith}
use Rattle.drg_triples.specs.LiveTypes.{AreLiveBefore}
use Rattle.drg_triples.proofs.TypeLists.{live_first, live_all_of}
use Rattle.drg_triples.proofs.live_types.add_first.Goals as goal

pub seconds-init : goal.seconds-init
seconds-init c = live_first c.args.numbers.now c.args.u c.args.found.now.items c.requires.before

pub seconds-preserved : goal.seconds-preserved
seconds-preserved c =
    let place : c.seconds.v + 1 ≡ suc c.seconds.v = omega arith in
    subst (λ (m : ℕ). AreLiveBefore c.args.numbers.now c.args.u m 0 c.add_pair.new.found.items) (sym place) c.in_ok-add_pair.ensures

pub returns : goal.returns
returns c = live_all_of c.args.numbers.now c.args.u c.seconds.v (suc c.args.u) c.seconds.found.items (omega arith) refl c.seconds.invariant
