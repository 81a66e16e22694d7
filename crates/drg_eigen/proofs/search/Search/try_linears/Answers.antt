use Rattle.std.proofs.Common.{◌≡◌, ℕ, ◌+◌, ◌*◌, ◌<◌, ◌≤◌, rules, arith, ◌∙◌, subst, ℤ, pos}
use Rattle.std.specs.Prelude.{◌-ℤ◌, neg_ℤ, unsigned_abs}
use Rattle.std.proofs.lemmas.Int.{ints, to_z-of_z}
use Rattle.std.proofs.lemmas.Result.{err_from_is_err_and}
use mir.Val.{to_z, of_z}
use mir.Syntax.{w32}
use Rattle.drg_eigen.specs.Factor.{linear}
use Rattle.drg_eigen.specs.Candidates.{IsLinearCandidate}
use Rattle.drg_eigen.specs.Search.{IsSearchFault}
use Rattle.drg_eigen.specs.Found.{HasTried, IsOne, IsAnything}
use Rattle.drg_eigen.proofs.LinearTrials.{linear_start, linear_tried, linear_fault, linear_end}
use Rattle.drg_eigen.proofs.Trials.{still_simple}
use Rattle.drg_eigen.proofs.search.Search.try_linears.Goals as goal

pub linears-init : goal.linears-init
linears-init c = linear_start c.from-most.result _ c.args.self.now (omega (arith, ints))

pub linears-preserved : goal.linears-preserved
linears-preserved c =
    let k = c.from-most.result in
    let r : to_z w32 (of_z w32 c.below-r.result) ≡ pos c.from-most.result -ℤ pos c.linears.steps = to_z-of_z w32 c.below-r.result (search rules) ∙ c.below-r.ensures in
    let inside : c.linears.steps < 2 * c.from-most.result + 1 = omega (arith, c.linears-test.true) in
    let small : unsigned_abs (pos c.from-most.result -ℤ pos c.linears.steps) ≤ c.from-most.result = omega (arith, ints) in
    let next : pos c.from-most.result -ℤ pos (c.linears.steps + 1) ≡ (pos c.from-most.result -ℤ pos c.linears.steps) -ℤ pos 1 = omega (arith, ints) in
    linear_tried k (pos k -ℤ pos c.linears.steps) small c.args.self.now c.linears.self c.linears.invariant _ next c.try_divisor.new.self
    (subst (λ (z : ℤ). HasTried (IsOne (linear z)) IsAnything c.linears.self c.try_divisor.new.self) r c.in_ok-try_divisor.ensures.tried)

pub try_divisor-requires-clause-simple : goal.try_divisor-requires-clause-simple
try_divisor-requires-clause-simple c = still_simple _ _ c.args.self.now c.linears.self c.linears.invariant c.requires

pub returns-in_err-try_divisor-clause-fault : goal.returns-in_err-try_divisor-clause-fault
returns-in_err-try_divisor-clause-fault c =
    let k = c.from-most.result in
    let r : to_z w32 (of_z w32 c.below-r.result) ≡ pos c.from-most.result -ℤ pos c.linears.steps = to_z-of_z w32 c.below-r.result (search rules) ∙ c.below-r.ensures in
    let inside : c.linears.steps < 2 * c.from-most.result + 1 = omega (arith, c.linears-test.true) in
    let small : unsigned_abs (pos c.from-most.result -ℤ pos c.linears.steps) ≤ c.from-most.result = omega (arith, ints) in
    let p = err_from_is_err_and c.from_residual.result c.from_residual.ensures.1 in
    rw (p.1, p.2)
    (subst (λ (n : ℕ). IsSearchFault (IsLinearCandidate n) IsAnything c.args.self.now.left c.in_err-try_divisor.field-0.0) c.from-most.ensures
    (linear_fault k (pos k -ℤ pos c.linears.steps) small c.args.self.now c.linears.self c.linears.invariant _
    (subst (λ (z : ℤ). IsSearchFault (IsOne (linear z)) IsAnything c.linears.self.left c.in_err-try_divisor.field-0.0) r c.in_err-try_divisor.ensures.fault)))

pub returns-clause-tried : goal.returns-clause-tried
returns-clause-tried c =
    let k = c.from-most.result in
    let ended : c.linears.steps ≡ 2 * c.from-most.result + 1 = omega (arith, c.linears-test.false, c.linears.auto.steps-end) in
    let low : pos c.from-most.result -ℤ pos c.linears.steps ≡ neg_ℤ (pos c.from-most.result) -ℤ pos 1 = omega (arith, ints) in
    subst (λ (n : ℕ). HasTried (IsLinearCandidate n) IsAnything c.args.self.now c.linears.self) c.from-most.ensures
    (linear_end k _ low c.args.self.now c.linears.self c.linears.invariant)
