use Rattle.std.proofs.Common.{◌≡◌, rules, arith, suc, ◌+◌, ap, ◌∙◌, true, false}
use Rattle.std.specs.Prelude.{pos}
use Rattle.std.proofs.lemmas.Int.{to_z-of_z}
use Rattle.std.proofs.lemmas.Result.{err_from_is_err_and}
use mir.Syntax.{w32, w128}
use Rattle.drg_array.specs.Entries.{a_at, b_at, c_at}
use Rattle.drg_eigen.proofs.Formula.{first_fits, first_is, weight_fits, weight_is, wide_first, wide_weight, gives}
use Rattle.drg_eigen.proofs.recurrence.next_coefficient.Goals as goal

pub returns-in_err-first : goal.returns-in_err-first
returns-in_err-first c =
    let one : c.args.j + 1 ≡ suc c.args.j = omega arith in
    let a : c.new-a.result.value ≡ a_at c.args.array.now (suc c.args.j) =
    c.new-a.ensures ∙ (to_z-of_z w128 c.from.result (search rules) ∙ (c.from.ensures ∙ (to_z-of_z w32 c.a.result (search rules) ∙ (c.a.ensures ∙ ap (a_at c.args.array.now) one)))) in
    let p = err_from_is_err_and c.from_residual.result c.from_residual.ensures.1 in
    rw p.1
    (wide_first c.args.array.now c.args.j c.args.before.now c.args.last.now c.args.t
    (first_fits c.args.array.now c.args.j c.args.before.now c.args.last.now c.args.t _ _ _ false c.coefficient_before.ensures a c.coefficient.ensures c.in_err-first.ensures))

pub returns-in_err-weight : goal.returns-in_err-weight
returns-in_err-weight c =
    let one : c.args.j + 1 ≡ suc c.args.j = omega arith in
    let b : c.from-2.result.value ≡ pos (b_at c.args.array.now c.args.j) = c.from-2.ensures ∙ ap pos c.b.ensures in
    let e : c.from-3.result.value ≡ pos (c_at c.args.array.now (suc c.args.j)) = c.from-3.ensures ∙ ap pos (c.c.ensures ∙ ap (c_at c.args.array.now) one) in
    let p = err_from_is_err_and c.from_residual-in_err-weight.result c.from_residual-in_err-weight.ensures.1 in
    rw p.1
    (wide_weight c.args.array.now c.args.j c.args.before.now c.args.last.now c.args.t
    (weight_fits c.args.array.now c.args.j c.args.before.now c.args.last.now c.args.t _ _ false b e c.in_err-weight.ensures))

pub returns : goal.returns
returns c =
    let one : c.args.j + 1 ≡ suc c.args.j = omega arith in
    let a : c.new-a.result.value ≡ a_at c.args.array.now (suc c.args.j) =
    c.new-a.ensures ∙ (to_z-of_z w128 c.from.result (search rules) ∙ (c.from.ensures ∙ (to_z-of_z w32 c.a.result (search rules) ∙ (c.a.ensures ∙ ap (a_at c.args.array.now) one)))) in
    let b : c.from-2.result.value ≡ pos (b_at c.args.array.now c.args.j) = c.from-2.ensures ∙ ap pos c.b.ensures in
    let e : c.from-3.result.value ≡ pos (c_at c.args.array.now (suc c.args.j)) = c.from-3.ensures ∙ ap pos (c.c.ensures ∙ ap (c_at c.args.array.now) one) in
    gives c.args.array.now c.args.j c.args.before.now c.args.last.now c.args.t c.less_product-2.result _ _ _
    (first_is c.args.array.now c.args.j c.args.before.now c.args.last.now c.args.t _ _ _ _ c.coefficient_before.ensures a c.coefficient.ensures c.in_ok-first.ensures.1)
    (weight_is c.args.array.now c.args.j c.args.before.now c.args.last.now c.args.t _ _ _ b e c.in_ok-weight.ensures.1)
    c.coefficient-2.ensures
    (first_fits c.args.array.now c.args.j c.args.before.now c.args.last.now c.args.t _ _ _ true c.coefficient_before.ensures a c.coefficient.ensures c.in_ok-first.ensures.0)
    (weight_fits c.args.array.now c.args.j c.args.before.now c.args.last.now c.args.t _ _ true b e c.in_ok-weight.ensures.0)
    c.less_product-2.ensures
