use Rattle.std.proofs.Common.{◌≡◌, ℕ, suc, ◌+◌, sym, subst, arith}
use Rattle.drg_matrices.specs.Tables.{root_of_tables}
use Rattle.drg_bounds.specs.AbsoluteBound.{values_in}
use Rattle.drg_bounds.specs.AbsoluteFits.{PassBefore}
use Rattle.drg_bounds.proofs.IndexOrders.{pass_none, pass_all, pass_all_fit, exceeded_fails, exceeded_earlier, exceeded_fit}
use Rattle.drg_bounds.proofs.absolute_bound.absolute.Goals as goal

pub firsts-init : goal.firsts-init
firsts-init g c =
    let f = g.F.Field in
    pass_none (f.operations (root_of_tables c.args.frame.now)) (values_in f.value f.operations c.args.frame.now c.args.krein.now)

pub firsts-preserved : goal.firsts-preserved
firsts-preserved g c =
    let f = g.F.Field in
    let place : c.firsts.i + 1 ≡ suc c.firsts.i = omega arith in
    subst (λ (m : ℕ). PassBefore (f.operations (root_of_tables c.args.frame.now)) (values_in f.value f.operations c.args.frame.now c.args.krein.now) m 0) (sym place)
    (rw c.in_default.is at c.in_ok-found.ensures.none)

pub returns-in-Some-clause-fails : goal.returns-in-Some-clause-fails
returns-in-Some-clause-fails g c =
    let f = g.F.Field in
    exceeded_fails (f.operations (root_of_tables c.args.frame.now)) (values_in f.value f.operations c.args.frame.now c.args.krein.now) c.in-Some.claim
    (rw c.in-Some.is at c.in_ok-found.ensures.first)

pub returns-in-Some-clause-first : goal.returns-in-Some-clause-first
returns-in-Some-clause-first g c =
    let f = g.F.Field in
    exceeded_earlier (f.operations (root_of_tables c.args.frame.now)) (values_in f.value f.operations c.args.frame.now c.args.krein.now) c.in-Some.claim
    (rw c.in-Some.is at c.in_ok-found.ensures.first)

pub returns-in-Some-clause-fit : goal.returns-in-Some-clause-fit
returns-in-Some-clause-fit g c =
    let f = g.F.Field in
    exceeded_fit (f.operations (root_of_tables c.args.frame.now)) (values_in f.value f.operations c.args.frame.now c.args.krein.now) c.in-Some.claim
    (rw c.in-Some.is at c.in_ok-found.ensures.first)

pub returns-clause-none : goal.returns-clause-none
returns-clause-none g c =
    let f = g.F.Field in
    pass_all (f.operations (root_of_tables c.args.frame.now)) (values_in f.value f.operations c.args.frame.now c.args.krein.now) c.firsts.i (omega arith) c.firsts.invariant

pub returns-clause-fit : goal.returns-clause-fit
returns-clause-fit g c =
    let f = g.F.Field in
    pass_all_fit (f.operations (root_of_tables c.args.frame.now)) (values_in f.value f.operations c.args.frame.now c.args.krein.now) c.firsts.i (omega arith) c.firsts.invariant
