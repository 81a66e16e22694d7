use Rattle.std.proofs.Common.{◌≡◌, rules, arith, suc, ap, subst, sym, ◌∙◌}
use Rattle.std.specs.Prelude.{pos, ◌*ℤ◌, ◌≤ℤ◌, ◌<ℤ◌}
use Rattle.std.proofs.lemmas.Int.{ints, to_z-of_z}
use mir.Val.{to_z, of_z}
use mir.Syntax.{w128}
use Rattle.drg_array.specs.Entries.{c_at}
use Rattle.drg_array.specs.declared.claim.Claim.TheVariants.{Intersect}
use Rattle.drg_array.specs.declared.node.Node.TheVariants.{P}
use Rattle.drg_whole.specs.Sums.{sum_from, products_of}
use Rattle.drg_intersection.specs.Faults.{IsNumbersFault}
use Rattle.drg_intersection.specs.Table.{balance}
use Rattle.drg_intersection.specs.declared.fault.NumbersFault.TheVariants.{Fall, Wide}
use Rattle.drg_intersection.proofs.Rows.{cell_next, cell_passes, cell_wide, cell_negative, cell_falls}
use Rattle.drg_intersection.proofs.table.next_number.Goals as goal

pub returns-in_default-clause-fault : goal.returns-in_default-clause-fault
returns-in_default-clause-fault c =
    let next : suc c.args.i ≡ c.index-i_next.result = omega (arith, c.index-i_next.ensures) in
    let fault = cell_wide c.args.array.now c.args.p.now c.args.h c.args.i c.args.j c.requires.array c.requires.h c.requires.i c.requires.j c.requires.length c.requires.cells c.requires.reached c.in_default.ensures in
    subst (λ m. IsNumbersFault c.args.array.now (Wide (P m c.index-i_next.result c.index-j_index.result))) (sym c.index-h_index.ensures)
    (subst (λ m. IsNumbersFault c.args.array.now (Wide (P c.args.h c.index-i_next.result m))) (sym c.index-j_index.ensures)
    (subst (λ n. IsNumbersFault c.args.array.now (Wide (P c.args.h n c.args.j))) next fault))

pub returns-in-Some-clause-cell : goal.returns-in-Some-clause-cell
returns-in-Some-clause-cell c =
    let x : to_z w128 (of_z w128 c.in-Some.x.value) ≡ c.in-Some.x.value = to_z-of_z w128 c.in-Some.x.value (search rules) in
    let natural : pos 0 ≤ℤ c.in-Some.x.value = grind (arith, ints, x, c.if-x-ge0.true) in
    let meet : pos (c_at c.args.array.now (suc c.args.i)) *ℤ c.in-Some.x.value ≡ sum_from (pos 0) (products_of (balance c.args.array.now c.args.p.now c.args.h c.args.i c.args.j)) =
    ap (λ z. z *ℤ c.in-Some.x.value) (sym c.divisor.ensures.value) ∙ (c.in-Some.ensures.some ∙ c.in-Ok.ensures.1) in
    cell_next c.args.array.now c.args.p.now c.args.h c.args.i c.args.j c.requires.array c.requires.h c.requires.i c.requires.j c.requires.length c.requires.cells c.in-Some.x.value meet natural

pub returns-in-Some-clause-passes : goal.returns-in-Some-clause-passes
returns-in-Some-clause-passes c =
    let x : to_z w128 (of_z w128 c.in-Some.x.value) ≡ c.in-Some.x.value = to_z-of_z w128 c.in-Some.x.value (search rules) in
    let natural : pos 0 ≤ℤ c.in-Some.x.value = grind (arith, ints, x, c.if-x-ge0.true) in
    let meet : pos (c_at c.args.array.now (suc c.args.i)) *ℤ c.in-Some.x.value ≡ sum_from (pos 0) (products_of (balance c.args.array.now c.args.p.now c.args.h c.args.i c.args.j)) =
    ap (λ z. z *ℤ c.in-Some.x.value) (sym c.divisor.ensures.value) ∙ (c.in-Some.ensures.some ∙ c.in-Ok.ensures.1) in
    cell_passes c.args.array.now c.args.p.now c.args.h c.args.i c.args.j c.requires.array c.requires.h c.requires.i c.requires.j c.requires.length c.requires.cells c.in-Some.x.value c.in-Ok.ensures.0 meet natural

pub returns-in_default-whole_quotient-clause-fault : goal.returns-in_default-whole_quotient-clause-fault
returns-in_default-whole_quotient-clause-fault c =
    let next : suc c.args.i ≡ c.index-i_next.result = omega (arith, c.index-i_next.ensures) in
    let x : to_z w128 (of_z w128 c.in-Some.x.value) ≡ c.in-Some.x.value = to_z-of_z w128 c.in-Some.x.value (search rules) in
    let below : c.in-Some.x.value <ℤ pos 0 = grind (arith, ints, x, c.if-x-ge0.false) in
    let meet : pos (c_at c.args.array.now (suc c.args.i)) *ℤ c.in-Some.x.value ≡ sum_from (pos 0) (products_of (balance c.args.array.now c.args.p.now c.args.h c.args.i c.args.j)) =
    ap (λ z. z *ℤ c.in-Some.x.value) (sym c.divisor.ensures.value) ∙ (c.in-Some.ensures.some ∙ c.in-Ok.ensures.1) in
    let fault = cell_negative c.args.array.now c.args.p.now c.args.h c.args.i c.args.j c.requires.array c.requires.h c.requires.i c.requires.j c.requires.length c.requires.cells c.requires.reached c.in-Some.x.value c.in-Ok.ensures.0 meet below in
    subst (λ m. IsNumbersFault c.args.array.now (Fall (Intersect m c.index-i_next.result c.index-j_index.result))) (sym c.index-h_index.ensures)
    (subst (λ m. IsNumbersFault c.args.array.now (Fall (Intersect c.args.h c.index-i_next.result m))) (sym c.index-j_index.ensures)
    (subst (λ n. IsNumbersFault c.args.array.now (Fall (Intersect c.args.h n c.args.j))) next fault))

pub returns-in_default-whole_quotient-2-clause-fault : goal.returns-in_default-whole_quotient-2-clause-fault
returns-in_default-whole_quotient-2-clause-fault c =
    let next : suc c.args.i ≡ c.index-i_next.result = omega (arith, c.index-i_next.ensures) in
    let fault = cell_falls c.args.array.now c.args.p.now c.args.h c.args.i c.args.j c.requires.array c.requires.h c.requires.i c.requires.j c.requires.length c.requires.cells c.requires.reached c.in-Ok.ensures.0
    (λ q e. c.in_default-whole_quotient.ensures.none q (ap (λ z. z *ℤ q) c.divisor.ensures.value ∙ (e ∙ sym c.in-Ok.ensures.1))) in
    subst (λ m. IsNumbersFault c.args.array.now (Fall (Intersect m c.index-i_next.result c.index-j_index.result))) (sym c.index-h_index.ensures)
    (subst (λ m. IsNumbersFault c.args.array.now (Fall (Intersect c.args.h c.index-i_next.result m))) (sym c.index-j_index.ensures)
    (subst (λ n. IsNumbersFault c.args.array.now (Fall (Intersect c.args.h n c.args.j))) next fault))
