use Rattle.std.proofs.Common.{◌≤◌, suc, ◌+◌, refl, sym, subst, arith}
use Rattle.drg_matrices.specs.Tables.{root_of_tables, diameter_of}
use Rattle.drg_bounds.specs.AbsoluteBound.{values_in}
use Rattle.drg_bounds.specs.AbsoluteFits.{IsFirstClaim, IsWideNode}
use Rattle.drg_bounds.proofs.IndexOrders.{pass_second, pass_next, pass_row}
use Rattle.drg_bounds.proofs.absolute_bound.exceeded_of.Goals as goal

pub seconds-init : goal.seconds-init
seconds-init g c =
    let f = g.F.Field in
    pass_second (f.operations (root_of_tables c.args.frame.now)) (values_in f.value f.operations c.args.frame.now c.args.krein.now) c.args.i c.requires.before

pub seconds-preserved : goal.seconds-preserved
seconds-preserved g c =
    let f = g.F.Field in
    pass_next (f.operations (root_of_tables c.args.frame.now)) (values_in f.value f.operations c.args.frame.now c.args.krein.now) c.args.i c.seconds.j (c.seconds.j + 1)
    (omega arith) c.seconds.invariant c.in-Ok.ensures.fits
    (λ e. (let yes = c.in-Ok.ensures.answer.1 e in let no = c.if-exceeded.false in cc))

pub returns-in_default-clause-wide : goal.returns-in_default-clause-wide
returns-in_default-clause-wide g c =
    let f = g.F.Field in
    let inside : c.seconds.j ≤ diameter_of c.args.frame.now = omega arith in
    subst (IsWideNode (f.operations (root_of_tables c.args.frame.now)) (values_in f.value f.operations c.args.frame.now c.args.krein.now)) (sym c.absolute_node.ensures) (record {
      some = c.requires.some;
      ordered = omega arith;
      inside = inside;
      wide = c.in_default.ensures.wide;
      before = c.seconds.invariant;
    })

pub returns-then-exceeded-clause-first : goal.returns-then-exceeded-clause-first
returns-then-exceeded-clause-first g c =
    let f = g.F.Field in
    let inside : c.seconds.j ≤ diameter_of c.args.frame.now = omega arith in
    subst (IsFirstClaim (f.operations (root_of_tables c.args.frame.now)) (values_in f.value f.operations c.args.frame.now c.args.krein.now)) (sym c.absolute_claim.ensures) (record {
      some = c.requires.some;
      ordered = omega arith;
      inside = inside;
      fits = c.in-Ok.ensures.fits;
      exceeded = c.in-Ok.ensures.answer.0 c.if-exceeded.true;
      before = c.seconds.invariant;
    })

pub returns-clause-none : goal.returns-clause-none
returns-clause-none g c =
    let f = g.F.Field in
    pass_row (f.operations (root_of_tables c.args.frame.now)) (values_in f.value f.operations c.args.frame.now c.args.krein.now) c.args.i c.seconds.j (suc c.args.i) (omega arith) refl c.seconds.invariant
