use Rattle.std.proofs.Common.{rules, arith, ◌≡◌, ℕ, ◌<◌, length, sym, subst, to_z, of_z}
use Rattle.std.proofs.lemmas.Grind.{common_steps}
use mir.Syntax.{w128}
use mir.Facts.{to_z-of_z}
use Rattle.drg_linear.specs.Splits.{Divides}
use Rattle.drg_linear.specs.Unknowns.{place}
use Rattle.drg_solver.specs.Answers.{IsSpent}
use Rattle.drg_solver.proofs.Reached.{at_start, in_hand, after_closed, after_division, all_closed, none_left, spent, not_enough}
use Rattle.drg_solver.proofs.search.solve.Goals as goal
use Rattle.drg_solver.proofs.search.solve.Goals.{in-Closed+in_ok-append-in-Closed, in-Divided+in_ok-push-in-Divided+in_ok-divide-in-Divided}

pub branches-init : goal.branches-init
branches-init c =
    at_start c.args.system.now c.new-splits.result.items c.new-waiting.result.items c.push.new.self.items c.in_ok-whole.field-0 c.new-lines.result.items c.in_ok-whole.ensures.room
    c.new-splits.ensures.items c.new-waiting.ensures.items c.in_ok-push.ensures.items c.in_ok-whole.ensures.leaf c.new-lines.ensures.items

pub derivation-requires-clause-closed : goal.derivation-requires-clause-closed
derivation-requires-clause-closed c =
    let len = c.branches.waiting.ok.0 in
    let none : length c.branches.waiting.items ≡ 0 = omega (arith, len, c.in_default.ensures.cases.0) in
    all_closed c.args.system.now c.branches.opened c.branches.splits.items c.branches.waiting.items c.branches.lines.items c.branches.invariant none

pub derivation-requires-clause-none : goal.derivation-requires-clause-none
derivation-requires-clause-none c =
    let len = c.branches.waiting.ok.0 in
    let none : length c.branches.waiting.items ≡ 0 = omega (arith, len, c.in_default.ensures.cases.0) in
    none_left c.args.system.now c.branches.opened c.branches.splits.items c.branches.waiting.items c.branches.lines.items c.branches.invariant none

pub derivation-requires-then-is_empty-clause-closed : goal.derivation-requires-then-is_empty-clause-closed
derivation-requires-then-is_empty-clause-closed c =
    let len = c.branches.waiting.ok.0 in
    let none : length c.branches.waiting.items ≡ 0 = grind (arith, common_steps) in
    all_closed c.args.system.now c.branches.opened c.branches.splits.items c.branches.waiting.items c.branches.lines.items c.branches.invariant none

pub derivation-requires-then-is_empty-clause-none : goal.derivation-requires-then-is_empty-clause-none
derivation-requires-then-is_empty-clause-none c =
    let len = c.branches.waiting.ok.0 in
    let none : length c.branches.waiting.items ≡ 0 = grind (arith, common_steps) in
    none_left c.args.system.now c.branches.opened c.branches.splits.items c.branches.waiting.items c.branches.lines.items c.branches.invariant none

pub divide-requires-clause-divides : goal.divide-requires-clause-divides
divide-requires-clause-divides c =
    let v : to_z w128 (of_z w128 c.in-Divided.at) ≡ c.in-Divided.at = to_z-of_z {w = w128} (search rules) in
    let divided = rw c.in-Divided.is at c.in_ok-closing.ensures in
    let now = in_hand c.args.system.now c.branches.opened c.branches.splits.items c.branches.waiting.items c.pop.new.self.items c.in-Some.leaf c.branches.lines.items c.branches.invariant c.in-Some.ensures.items in
    rw v (subst (λ (d : ℕ). Divides c.in-Some.leaf.room.bounds (place d c.in-Divided.unknown) c.in-Divided.at) (sym now.in_place.0.part.d) divided.sides)

pub branches-preserved : goal.branches-preserved
branches-preserved c =
    elim c.match-branch-6.branch [
      | in-Closed+in_ok-append-in-Closed w ↦ (let closes = rw w.in-Closed.is at c.in_ok-closing.ensures in
          rw (w.splits-is, w.lines-is, w.waiting-is)
          (after_closed c.args.system.now c.branches.opened c.branches.splits.items c.branches.waiting.items c.pop.new.self.items c.in-Some.leaf c.branches.lines.items w.in-Closed.closing.items w.append.new.self.items
          c.branches.invariant c.in-Some.ensures.items closes w.in_ok-append-in-Closed.ensures.items))
      | in-Divided+in_ok-push-in-Divided+in_ok-divide-in-Divided w ↦ (let divided = rw w.in-Divided.is at c.in_ok-closing.ensures in
          let v : to_z w128 (of_z w128 w.in-Divided.at) ≡ w.in-Divided.at = to_z-of_z {w = w128} (search rules) in
          let division = rw v at w.in_ok-divide-in-Divided.ensures in
          let line = rw (w.split_line.ensures, v) at w.in_ok-push-in-Divided.ensures.items in
          rw (w.splits-is, w.lines-is, w.waiting-is)
          (after_division c.args.system.now c.branches.opened c.branches.splits.items w.divide.new.splits.items c.branches.waiting.items c.pop.new.self.items w.divide.new.waiting.items c.in-Some.leaf w.in-Divided.unknown w.in-Divided.at
          c.branches.lines.items w.push-in-Divided.new.self.items c.branches.invariant c.in-Some.ensures.items divided division line))
    ]

pub returns-clause-answer : goal.returns-clause-answer
returns-clause-answer c =
    let len = c.branches.waiting.ok.0 in
    let some : 0 < length c.branches.waiting.items = grind (arith, common_steps) in
    let all : c.branches.opened ≡ c.args.budget = omega arith in
    let P : ℕ → Type 0 = λ n. IsSpent c.args.system.now n n c.branches.splits.items in
    subst P all (spent c.args.system.now c.branches.opened c.branches.splits.items c.branches.waiting.items c.branches.lines.items c.branches.invariant some)

pub returns-clause-enough : goal.returns-clause-enough
returns-clause-enough c = λ h.
    let len = c.branches.waiting.ok.0 in
    let some : 0 < length c.branches.waiting.items = grind (arith, common_steps) in
    not_enough c.args.system.now c.branches.opened c.branches.splits.items c.branches.waiting.items c.branches.lines.items c.branches.invariant some (omega (arith, h))
