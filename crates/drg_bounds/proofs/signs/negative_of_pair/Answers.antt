use Rattle.std.proofs.Common.{suc, ◌+◌, ◌≤◌, refl, sym, subst, arith}
use Rattle.drg_bounds.specs.Signs.{IsFirstNegative}
use Rattle.drg_bounds.proofs.IndexOrders.{negative_third, negative_next, negative_row}
use Rattle.drg_bounds.proofs.signs.negative_of_pair.Goals as goal

pub thirds-init : goal.thirds-init
thirds-init g c =
    let f = g.F.Field in
    negative_third f.value f.operations c.args.krein.now c.args.i c.args.j c.requires.before

pub thirds-preserved : goal.thirds-preserved
thirds-preserved g c =
    let f = g.F.Field in
    negative_next f.value f.operations c.args.krein.now c.args.i c.args.j c.thirds.h (c.thirds.h + 1) (omega arith) c.thirds.invariant
    (λ n. (let yes = c.is_negative.ensures.1 n in let no = c.if-is_negative.false in cc))

pub returns-then-is_negative-clause-first : goal.returns-then-is_negative-clause-first
returns-then-is_negative-clause-first g c =
    let f = g.F.Field in
    let inside : c.thirds.h ≤ c.args.krein.now.d = omega arith in
    subst (IsFirstNegative f.value f.operations c.args.krein.now) (sym c.krein_claim.ensures) (record {
      some = c.requires.some;
      ordered = c.requires.ordered;
      third = omega arith;
      inside = inside;
      negative = c.is_negative.ensures.0 c.if-is_negative.true;
      before = c.thirds.invariant;
    })

pub returns-clause-none : goal.returns-clause-none
returns-clause-none g c =
    let f = g.F.Field in
    negative_row f.value f.operations c.args.krein.now c.args.i c.args.j c.thirds.h (suc c.args.j) (omega arith) refl c.thirds.invariant
