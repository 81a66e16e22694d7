use Rattle.std.proofs.Common.{◌≡◌, ℕ, suc, ◌+◌, refl, sym, subst, arith}
use Rattle.drg_bounds.specs.Signs.{NoneNegativeBefore}
use Rattle.drg_bounds.proofs.IndexOrders.{negative_second, negative_first}
use Rattle.drg_bounds.proofs.signs.negative_of.Goals as goal

pub seconds-init : goal.seconds-init
seconds-init g c =
    let f = g.F.Field in
    negative_second f.value f.operations c.args.krein.now c.args.i c.requires.before

pub seconds-preserved : goal.seconds-preserved
seconds-preserved g c =
    let f = g.F.Field in
    let place : c.seconds.j + 1 ≡ suc c.seconds.j = omega arith in
    subst (λ (m : ℕ). NoneNegativeBefore f.value f.operations c.args.krein.now c.args.i m 0) (sym place) c.in_default.ensures.none

pub returns-clause-none : goal.returns-clause-none
returns-clause-none g c =
    let f = g.F.Field in
    negative_first f.value f.operations c.args.krein.now c.args.i c.seconds.j (suc c.args.i) (omega arith) refl c.seconds.invariant
