use Rattle.std.proofs.Common.{◌≡◌, ◌≤◌, rules, arith, suc, ◌+◌, length, ap, subst, sym}
use Rattle.std.proofs.lemmas.Int.{to_z-of_z}
use mir.Val.{to_z, of_z}
use mir.Syntax.{w128}
use Rattle.drg_array.specs.Entries.{diameter}
use Rattle.drg_array.specs.declared.node.Node.TheVariants.{P}
use Rattle.drg_intersection.specs.Faults.{IsReached}
use Rattle.drg_intersection.specs.FirstNumbers.{AreCells, IsCellAt}
use Rattle.drg_intersection.proofs.Places.{one_more}
use Rattle.drg_intersection.proofs.Filling.{cell_more}
use Rattle.drg_intersection.proofs.Reached.{next_entry}
use Rattle.drg_intersection.proofs.table.fill_row.Goals as goal

pub number_after-requires-clause-cells : goal.number_after-requires-clause-cells
number_after-requires-clause-cells c = subst (λ p. AreCells c.args.array.now p) (sym c.deref.ensures.value) c.row.invariant.cells

pub returns-in_err-push-clause-cells : goal.returns-in_err-push-clause-cells
returns-in_err-push-clause-cells c = subst (λ p. AreCells c.args.array.now p) (sym c.in_err-push.ensures.items) c.row.invariant.cells

pub row-preserved : goal.row-preserved
row-preserved c =
    let a = c.args.array.now in
    let x : to_z w128 (of_z w128 c.in_ok-x.x.value) ≡ c.in_ok-x.x.value = to_z-of_z w128 c.in_ok-x.x.value (search rules) in
    let one : suc c.row.j ≡ c.row.j + 1 = omega arith in
    let items = c.in_ok-push.ensures.items in
    let inside : c.row.j ≤ diameter c.args.array.now = omega (arith, c.row-test.true, c.d-j-end.ensures.value) in
    let is = subst (λ z. IsCellAt a c.args.h c.args.i c.row.j z) (sym x) c.in_ok-x.ensures.cell in
    let more = one_more c.row.p.items (to_z w128 (of_z w128 c.in_ok-x.x.value)) in
    let long = ap length items in
    record {
      long = omega (arith, long, more, c.row.invariant.long);
      cells = subst (λ p. AreCells a p) (sym items) (cell_more a c.row.p.items c.args.h c.args.i c.row.j _ c.requires.i inside c.row.invariant.cells c.row.invariant.long is);
      reached = subst (λ n. IsReached a (P c.args.h c.args.i n)) one (next_entry a c.args.h c.args.i c.row.j c.row.invariant.reached c.in_ok-x.ensures.passes);
    }
