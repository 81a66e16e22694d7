use Rattle.std.proofs.Common.{rules, FitsSigned}
use mir.Syntax.{w128}
use mir.Facts.{to_z-of_z}
use Rattle.std.specs.Prelude.{slice_index_or}
use Rattle.drg_rooms.proofs.AddLaws.{added, added_all, stopped, unfit}
use Rattle.drg_rooms.proofs.MergeLaws.{nowhere}
use Rattle.drg_rooms.proofs.combinations.add_terms.Goals as goal

pub returns-in_err-rest : goal.returns-in_err-rest
returns-in_err-rest c =
    let factor : FitsSigned w128 c.args.factor = c.ranges.factor in
    let value : FitsSigned w128 c.in_ok-value.value.value = search rules in
    let own : FitsSigned w128 (slice_index_or c.args.others.now c.others.term-index nowhere).1 = search rules in
    let product = (simp to_z-of_z at c.in_ok-value.ensures.1) in
    let before = (simp to_z-of_z at c.others.invariant) in
    let rest = (simp to_z-of_z at c.in_err-rest.ensures) in
    stopped c.from_residual-in_err-rest.result c.in_err-rest.field-0.0 _ _ _ _ (search rules) rest
    (λ m. unfit c.args.factor c.in_ok-value.value.value c.args.made.now.items c.args.terms.now c.args.others.now c.others.made.items c.others.rest.now c.others.term-index c.others-test.true before product m)

pub others-preserved : goal.others-preserved
others-preserved c =
    let factor : FitsSigned w128 c.args.factor = c.ranges.factor in
    let value : FitsSigned w128 c.in_ok-value.value.value = search rules in
    let own : FitsSigned w128 (slice_index_or c.args.others.now c.others.term-index nowhere).1 = search rules in
    let fits = (simp to_z-of_z at c.in_ok-value.ensures.0) in
    let product = (simp to_z-of_z at c.in_ok-value.ensures.1) in
    let rest = (simp to_z-of_z at c.in_ok-rest.ensures) in
    let before = (simp to_z-of_z at c.others.invariant) in
    simp to_z-of_z (added c.args.factor c.in_ok-value.value.value c.args.made.now.items c.args.terms.now c.args.others.now c.others.made.items c.add_term.new.made.items c.others.rest.now c.in_ok-rest.rest.now c.others.term-index c.others-test.true before fits product rest.0 rest.1)

pub returns : goal.returns
returns c =
    let factor : FitsSigned w128 c.args.factor = c.ranges.factor in
    let before = (simp to_z-of_z at c.others.invariant) in
    added_all c.args.factor c.args.made.now.items c.args.terms.now c.args.others.now c.others.made.items c.others.rest.now c.extend_from_slice.new.self.items c.others.term-index c.others-test.false before c.in_ok-extend_from_slice.ensures.items
