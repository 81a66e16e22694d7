use Rattle.std.proofs.Common.{◌≡◌, rules, false, FitsSigned}
use mir.Syntax.{w128}
use mir.Facts.{to_z-of_z}
use Rattle.drg_rooms.specs.Combinations.{more_fits}
use Rattle.drg_rooms.proofs.MergeLaws.{added_own, added_none, own_wide}
use Rattle.drg_rooms.proofs.combinations.add_term.Goals as goal

pub returns-in_err-total-in-Some : goal.returns-in_err-total-in-Some
returns-in_err-total-in-Some c =
    let value : FitsSigned w128 c.args.value = c.ranges.value in
    let coefficient : FitsSigned w128 c.in-Some.coefficient = search rules in
    let sum = (simp to_z-of_z at c.in_err-total-in-Some.ensures) in
    let wide : more_fits c.args.unknown c.args.value c.args.terms.now ≡ false = own_wide c.args.unknown c.args.value c.in-Some.coefficient c.args.terms.now c.divide.result.0.now c.divide.result.1.now c.in-Some.left.now c.divide.ensures c.in-Some.ensures sum in
    search rules

pub returns-in_ok-push_term-in-Some : goal.returns-in_ok-push_term-in-Some
returns-in_ok-push_term-in-Some c =
    let value : FitsSigned w128 c.args.value = c.ranges.value in
    let coefficient : FitsSigned w128 c.in-Some.coefficient = search rules in
    let total : FitsSigned w128 c.in_ok-total-in-Some.total.value = search rules in
    let fits = (simp to_z-of_z at c.in_ok-total-in-Some.ensures.0) in
    let sum = (simp to_z-of_z at c.in_ok-total-in-Some.ensures.1) in
    let push = (simp to_z-of_z at c.in_ok-push_term-in-Some.ensures) in
    added_own c.args.unknown c.args.value c.in-Some.coefficient c.in_ok-total-in-Some.total.value c.args.terms.now c.divide.result.0.now c.divide.result.1.now c.in-Some.left.now c.args.made.now.items c.extend_from_slice.new.self.items c.push_term.new.made.items
    c.divide.ensures c.in-Some.ensures fits sum c.in_ok-extend_from_slice.ensures.items push

pub returns-in_ok-push_term-in-None : goal.returns-in_ok-push_term-in-None
returns-in_ok-push_term-in-None c =
    let value : FitsSigned w128 c.args.value = c.ranges.value in
    let push = (simp to_z-of_z at c.in_ok-push_term-in-None.ensures) in
    added_none c.args.unknown c.args.value c.args.terms.now c.divide.result.0.now c.divide.result.1.now c.args.made.now.items c.extend_from_slice.new.self.items c.push_term-in-None.new.made.items
    c.divide.ensures c.in-None.ensures c.in_ok-extend_from_slice.ensures.items push
