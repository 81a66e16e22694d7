use Rattle.std.proofs.Common.{◌≡◌, ℕ, suc, ◌+◌, sym, subst, arith}
use Rattle.drg_matrices.specs.Tables.{root_of_tables}
use Rattle.drg_bounds.specs.AbsoluteBound.{values_in}
use Rattle.drg_bounds.specs.Totals.{IsTotalBelow}
use Rattle.drg_bounds.proofs.MultiplicitySums.{total_none, total_all, total_root, total_nothing}
use Rattle.drg_bounds.proofs.sums.total.Goals as goal

pub numbers-init : goal.numbers-init
numbers-init g c =
    let f = g.F.Field in
    total_none f.value f.root_of f.operations (root_of_tables c.args.frame.now) (values_in f.value f.operations c.args.frame.now c.args.krein.now) c.args.i c.args.j

pub numbers-preserved : goal.numbers-preserved
numbers-preserved g c =
    let f = g.F.Field in
    let place : c.numbers.h + 1 ≡ suc c.numbers.h = omega arith in
    subst (λ (m : ℕ). IsTotalBelow f.value f.root_of f.operations (root_of_tables c.args.frame.now) (values_in f.value f.operations c.args.frame.now c.args.krein.now) c.args.i c.args.j m c.in_ok-total.total) (sym place) c.in_ok-total.ensures.total

pub returns-in-Some-clause-total : goal.returns-in-Some-clause-total
returns-in-Some-clause-total g c =
    let f = g.F.Field in
    let root = root_of_tables c.args.frame.now in
    let b = values_in f.value f.operations c.args.frame.now c.args.krein.now in
    total_all f.value f.root_of f.operations root b c.args.i c.args.j c.numbers.h c.in-Some.sum (omega arith)
    (subst (IsTotalBelow f.value f.root_of f.operations root b c.args.i c.args.j c.numbers.h) c.in-Some.is c.numbers.invariant)

pub returns-in-Some-clause-root : goal.returns-in-Some-clause-root
returns-in-Some-clause-root g c =
    let f = g.F.Field in
    let root = root_of_tables c.args.frame.now in
    let b = values_in f.value f.operations c.args.frame.now c.args.krein.now in
    total_root f.value f.root_of f.operations root b c.args.i c.args.j c.numbers.h c.in-Some.sum
    (subst (IsTotalBelow f.value f.root_of f.operations root b c.args.i c.args.j c.numbers.h) c.in-Some.is c.numbers.invariant)

pub returns-in-None-clause-total : goal.returns-in-None-clause-total
returns-in-None-clause-total g c =
    let f = g.F.Field in
    let root = root_of_tables c.args.frame.now in
    let b = values_in f.value f.operations c.args.frame.now c.args.krein.now in
    total_nothing f.value f.root_of f.operations root b c.args.i c.args.j c.numbers.h c.zero.result (omega arith) c.zero.ensures.value
    (subst (IsTotalBelow f.value f.root_of f.operations root b c.args.i c.args.j c.numbers.h) c.in-None.is c.numbers.invariant)
