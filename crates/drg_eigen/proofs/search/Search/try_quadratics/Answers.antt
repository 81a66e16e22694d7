use Rattle.std.proofs.Common.{◌≡◌, ℕ, ◌+◌, ◌*◌, ◌<◌, ◌≤◌, rules, arith, ap, ◌∙◌, subst, ℤ, pos, List, get_or}
use Rattle.std.specs.Prelude.{◌-ℤ◌, neg_ℤ, unsigned_abs}
use Rattle.std.proofs.lemmas.Int.{ints, to_z-of_z}
use Rattle.std.proofs.lemmas.Result.{err_from_is_err_and}
use mir.Val.{to_z, of_z}
use mir.Syntax.{w32, w128}
use Rattle.drg_eigen.specs.Candidates.{IsQuadraticCandidate, value_at}
use Rattle.drg_eigen.specs.Search.{IsSearchFault}
use Rattle.drg_eigen.specs.Products.{AreDivisors}
use Rattle.drg_eigen.specs.Values.{MayPass}
use Rattle.drg_eigen.specs.Found.{HasTried, IsListed, MayBeFactor}
use Rattle.drg_eigen.proofs.FactorValues.{first_value}
use Rattle.drg_eigen.proofs.Trials.{still_simple}
use Rattle.drg_eigen.proofs.QuadraticTrials.{allowed, sum_widened, sum_fault_widened, sums_start, sums_tried, sums_fault, sums_end}
use Rattle.drg_eigen.proofs.search.Search.try_quadratics.Goals as goal

pub sums-init : goal.sums-init
sums-init c = sums_start c.from-k.result _ (MayBeFactor c.args.self.now.left) c.args.self.now (omega (arith, ints))

pub try_sum-requires-clause-simple : goal.try_sum-requires-clause-simple
try_sum-requires-clause-simple c = still_simple _ _ c.args.self.now c.sums.self c.sums.invariant c.requires.simple

pub try_sum-requires-clause-allowed : goal.try_sum-requires-clause-allowed
try_sum-requires-clause-allowed c =
    let f = c.args.self.now.left in
    let number : to_z w128 (of_z w128 (get_or c.coefficients.result.now 0 (pos 0))) ≡ value_at (pos 0) c.args.self.now.left =
    to_z-of_z w128 _ (search rules) ∙ (ap (λ (l : List ℤ). get_or l 0 (pos 0)) c.coefficients.ensures.items
    ∙ first_value f c.coefficients.ensures.poly.monic) in
    let divisors = subst (λ (n : ℤ). AreDivisors n (c.from-k.result * c.from-k.result) c.in_ok-products.products.items) number c.in_ok-products.ensures in
    allowed c.from-k.result f c.requires.simple c.of-values.result c.of-values.ensures c.in_ok-products.products.items divisors
    c.sums.invariant.more c.sums.self.left c.sums.invariant.search.quotient _

pub sums-preserved : goal.sums-preserved
sums-preserved c =
    let k = c.from-k.result in
    let f = c.args.self.now.left in
    let ts = c.in_ok-products.products.items in
    let v = c.of-values.result in
    let number : to_z w128 (of_z w128 (get_or c.coefficients.result.now 0 (pos 0))) ≡ value_at (pos 0) c.args.self.now.left =
    to_z-of_z w128 _ (search rules) ∙ (ap (λ (l : List ℤ). get_or l 0 (pos 0)) c.coefficients.ensures.items
    ∙ first_value f c.coefficients.ensures.poly.monic) in
    let divisors = subst (λ (n : ℤ). AreDivisors n (c.from-k.result * c.from-k.result) c.in_ok-products.products.items) number c.in_ok-products.ensures in
    let s : to_z w32 (of_z w32 c.below.result) ≡ pos (2 * c.from-k.result) -ℤ pos c.sums.steps = to_z-of_z w32 c.below.result (search rules) ∙ c.below.ensures in
    let inside : c.sums.steps < 2 * (2 * c.from-k.result) + 1 = omega (arith, c.sums-test.true) in
    let small : unsigned_abs (pos (2 * c.from-k.result) -ℤ pos c.sums.steps) ≤ 2 * c.from-k.result = omega (arith, ints) in
    let next : pos (2 * c.from-k.result) -ℤ pos (c.sums.steps + 1) ≡ (pos (2 * c.from-k.result) -ℤ pos c.sums.steps) -ℤ pos 1 = omega (arith, ints) in
    let one = subst (λ (l : List ℤ). HasTried (IsListed (pos (2 * c.from-k.result) -ℤ pos c.sums.steps) l) (MayPass c.of-values.result) c.sums.self c.try_sum.new.self) c.deref.ensures.value
    (subst (λ (z : ℤ). HasTried (IsListed z c.deref.result.now) (MayPass c.of-values.result) c.sums.self c.try_sum.new.self) s c.in_ok-try_sum.ensures.tried) in
    sums_tried k (MayBeFactor f) (pos (2 * k) -ℤ pos c.sums.steps) c.args.self.now c.sums.self c.sums.invariant _ next c.try_sum.new.self
    (sum_widened k f c.requires.simple v c.of-values.ensures ts divisors (pos (2 * k) -ℤ pos c.sums.steps) small
    c.sums.invariant.more c.sums.self c.sums.invariant.search.quotient c.try_sum.new.self one)

pub returns-in_err-try_sum-clause-fault : goal.returns-in_err-try_sum-clause-fault
returns-in_err-try_sum-clause-fault c =
    let k = c.from-k.result in
    let f = c.args.self.now.left in
    let ts = c.in_ok-products.products.items in
    let v = c.of-values.result in
    let number : to_z w128 (of_z w128 (get_or c.coefficients.result.now 0 (pos 0))) ≡ value_at (pos 0) c.args.self.now.left =
    to_z-of_z w128 _ (search rules) ∙ (ap (λ (l : List ℤ). get_or l 0 (pos 0)) c.coefficients.ensures.items
    ∙ first_value f c.coefficients.ensures.poly.monic) in
    let divisors = subst (λ (n : ℤ). AreDivisors n (c.from-k.result * c.from-k.result) c.in_ok-products.products.items) number c.in_ok-products.ensures in
    let s : to_z w32 (of_z w32 c.below.result) ≡ pos (2 * c.from-k.result) -ℤ pos c.sums.steps = to_z-of_z w32 c.below.result (search rules) ∙ c.below.ensures in
    let inside : c.sums.steps < 2 * (2 * c.from-k.result) + 1 = omega (arith, c.sums-test.true) in
    let small : unsigned_abs (pos (2 * c.from-k.result) -ℤ pos c.sums.steps) ≤ 2 * c.from-k.result = omega (arith, ints) in
    let wide = subst (λ (l : List ℤ). IsSearchFault (IsListed (pos (2 * c.from-k.result) -ℤ pos c.sums.steps) l) (MayPass c.of-values.result) c.sums.self.left c.in_err-try_sum.field-0.0) c.deref.ensures.value
    (subst (λ (z : ℤ). IsSearchFault (IsListed z c.deref.result.now) (MayPass c.of-values.result) c.sums.self.left c.in_err-try_sum.field-0.0) s c.in_err-try_sum.ensures.fault) in
    let p = err_from_is_err_and c.from_residual-in_err-try_sum.result c.from_residual-in_err-try_sum.ensures.1 in
    rw (p.1, p.2)
    (subst (λ (n : ℕ). IsSearchFault (IsQuadraticCandidate n) (MayBeFactor c.args.self.now.left) c.args.self.now.left c.in_err-try_sum.field-0.0) c.from-k.ensures
    (sums_fault k (MayBeFactor f) (pos (2 * k) -ℤ pos c.sums.steps) c.args.self.now c.sums.self c.sums.invariant _
    (sum_fault_widened k f c.requires.simple v c.of-values.ensures ts divisors (pos (2 * k) -ℤ pos c.sums.steps) small
    c.sums.invariant.more c.sums.self c.sums.invariant.search.quotient _ wide)))

pub returns-clause-tried : goal.returns-clause-tried
returns-clause-tried c =
    let k = c.from-k.result in
    let ended : c.sums.steps ≡ 2 * (2 * c.from-k.result) + 1 = omega (arith, c.sums-test.false, c.sums.auto.steps-end) in
    let low : pos (2 * c.from-k.result) -ℤ pos c.sums.steps ≡ neg_ℤ (pos (2 * c.from-k.result)) -ℤ pos 1 = omega (arith, ints) in
    subst (λ (n : ℕ). HasTried (IsQuadraticCandidate n) (MayBeFactor c.args.self.now.left) c.args.self.now c.sums.self) c.from-k.ensures
    (sums_end k _ low (MayBeFactor c.args.self.now.left) c.args.self.now c.sums.self c.sums.invariant)
