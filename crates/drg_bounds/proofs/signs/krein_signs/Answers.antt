use Rattle.std.proofs.Common.{◌≡◌, ℕ, suc, ◌+◌, sym, subst, arith}
use Rattle.drg_bounds.specs.Signs.{NoneNegativeBefore}
use Rattle.drg_bounds.proofs.IndexOrders.{negative_none, negative_all, negative_fails, negative_earlier}
use Rattle.drg_bounds.proofs.signs.krein_signs.Goals as goal

pub firsts-init : goal.firsts-init
firsts-init g c =
    let f = g.F.Field in
    negative_none f.value f.operations c.args.krein.now

pub firsts-preserved : goal.firsts-preserved
firsts-preserved g c =
    let f = g.F.Field in
    let place : c.firsts.i + 1 ≡ suc c.firsts.i = omega arith in
    subst (λ (m : ℕ). NoneNegativeBefore f.value f.operations c.args.krein.now m 0 0) (sym place) c.in_default.ensures.none

pub returns-in-Some-clause-fails : goal.returns-in-Some-clause-fails
returns-in-Some-clause-fails g c =
    let f = g.F.Field in
    negative_fails f.value f.operations c.args.krein.now c.in-Some.claim c.in-Some.ensures.first

pub returns-in-Some-clause-first : goal.returns-in-Some-clause-first
returns-in-Some-clause-first g c =
    let f = g.F.Field in
    negative_earlier f.value f.operations c.args.krein.now c.in-Some.claim c.in-Some.ensures.first

pub returns-clause-none : goal.returns-clause-none
returns-clause-none g c =
    let f = g.F.Field in
    negative_all f.value f.operations c.args.krein.now c.firsts.i (omega arith) c.firsts.invariant
