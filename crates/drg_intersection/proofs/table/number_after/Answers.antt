use Rattle.std.proofs.Common.{◌≡◌, arith, suc, ◌-◌, subst, sym, IfOk}
use Rattle.drg_array.specs.declared.node.Node.TheVariants.{P}
use Rattle.drg_intersection.specs.Faults.{IsReached, Passes}
use Rattle.drg_intersection.specs.FirstNumbers.{IsCellAt}
use Rattle.drg_intersection.proofs.Rows.{start_cell}
use Rattle.drg_intersection.proofs.table.number_after.Goals as goal

pub returns-then-i-eq0-clause-cell : goal.returns-then-i-eq0-clause-cell
returns-then-i-eq0-clause-cell c =
    subst (λ n. IsCellAt c.args.array.now c.args.h n c.args.j c.first_number.result.value) (sym c.if-i-eq0.true)
    (subst (λ z. IsCellAt c.args.array.now c.args.h 0 c.args.j z) (sym c.first_number.ensures)
    (start_cell c.args.array.now c.args.h c.args.j c.requires.array c.requires.j))

pub next_number-requires-clause-reached : goal.next_number-requires-clause-reached
next_number-requires-clause-reached c =
    let back : c.args.i ≡ suc (c.args.i - 1) = omega (arith, c.if-i-eq0.false) in
    subst (λ n. IsReached c.args.array.now (P c.args.h n c.args.j)) back c.requires.reached

pub returns-clause-cell : goal.returns-clause-cell
returns-clause-cell c =
    let back : suc (c.args.i - 1) ≡ c.args.i = omega (arith, c.if-i-eq0.false) in
    subst (λ n. IfOk c.next_number.result (λ x. IsCellAt c.args.array.now c.args.h n c.args.j x.value)) back c.next_number.ensures.cell

pub returns-clause-passes : goal.returns-clause-passes
returns-clause-passes c =
    let back : suc (c.args.i - 1) ≡ c.args.i = omega (arith, c.if-i-eq0.false) in
    subst (λ n. IfOk c.next_number.result (λ x. Passes c.args.array.now (P c.args.h n c.args.j))) back c.next_number.ensures.passes
