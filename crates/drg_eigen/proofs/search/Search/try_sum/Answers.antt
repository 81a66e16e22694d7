use Rattle.std.proofs.Common.{◌≡◌, ℕ, ◌+◌, ◌<◌, rules, arith, ap, sym, ◌∙◌, subst, ℤ, pos, List, length, take, get_or}
use Rattle.std.proofs.Math.Seq.{take-length}
use Rattle.std.proofs.lemmas.Int.{to_z-of_z}
use Rattle.std.proofs.lemmas.Result.{err_from_is_err_and}
use mir.Val.{to_z, of_z}
use mir.Syntax.{w32}
use Rattle.drg_eigen.specs.Factor.{quadratic, Divides, IsIrreducible}
use Rattle.drg_eigen.specs.Search.{IsSearchFault}
use Rattle.drg_eigen.specs.Values.{MayPass}
use Rattle.drg_eigen.specs.Found.{HasTried, IsListed}
use Rattle.drg_eigen.proofs.Trials.{still_simple}
use Rattle.drg_eigen.proofs.SumTrials.{sum_start, sum_passed, sum_tried, sum_fault}
use Rattle.drg_eigen.proofs.search.Search.try_sum.Goals as goal
use Rattle.drg_eigen.proofs.search.Search.try_sum.Goals.{then-passes+in_ok-try_divisor, else-passes}

pub products-init : goal.products-init
products-init c = sum_start _ c.args.values.now c.args.self.now

pub products-preserved : goal.products-preserved
products-preserved c =
    let ts = c.args.products.now in
    let v = c.args.values.now in
    let i = c.products.t-index in
    let inside : c.products.t-index < length c.args.products.now = omega (arith, c.products-test.true) in
    let is : get_or c.args.products.now c.products.t-index (pos 0) ≡ to_z w32 (of_z w32 (get_or c.args.products.now c.products.t-index (pos 0))) = sym (to_z-of_z w32 _ (search rules)) in
    let same : to_z w32 (of_z w32 c.args.s) ≡ c.args.s = to_z-of_z w32 c.args.s (search rules) in
    let s = to_z w32 (of_z w32 c.args.s) in
    let t = to_z w32 (of_z w32 (get_or c.args.products.now c.products.t-index (pos 0))) in
    let told = c.passes.ensures in
    elim c.if-passes.branch [
      | then-passes+in_ok-try_divisor w ↦ (
          let passed : IsIrreducible (quadratic (to_z w32 (of_z w32 c.args.s)) (to_z w32 (of_z w32 (get_or c.args.products.now c.products.t-index (pos 0)))))
          × MayPass c.args.values.now (quadratic (to_z w32 (of_z w32 c.args.s)) (to_z w32 (of_z w32 (get_or c.args.products.now c.products.t-index (pos 0))))) = told.0 w.if-passes.true in
          subst (HasTried (IsListed s (take (i + 1) ts)) (MayPass v) c.args.self.now) (sym w.self-is)
          (sum_tried s ts v i t inside is c.requires.falling c.args.self.now c.products.self c.products.invariant passed.0 _ w.in_ok-try_divisor.ensures.tried)
          )
      | else-passes w ↦ (
          let allowed = subst (λ (z : ℤ). (t : ℤ) → Divides (quadratic z t) c.args.self.now.left → IsIrreducible (quadratic z t) → MayPass c.args.values.now (quadratic z t)) (sym same) c.requires.allowed in
          subst (HasTried (IsListed s (take (i + 1) ts)) (MayPass v) c.args.self.now) (sym w.self-is)
          (sum_passed s ts v i t inside is c.requires.falling c.args.self.now c.products.self c.products.invariant
          (λ q. (let yes = told.1 q in let no = w.if-passes.false in cc)) (λ d free. allowed t d free))
          )
    ]

pub try_divisor-requires-clause-simple : goal.try_divisor-requires-clause-simple
try_divisor-requires-clause-simple c = still_simple _ _ c.args.self.now c.products.self c.products.invariant c.requires.simple

pub returns-in_err-try_divisor-clause-fault : goal.returns-in_err-try_divisor-clause-fault
returns-in_err-try_divisor-clause-fault c =
    let ts = c.args.products.now in
    let v = c.args.values.now in
    let i = c.products.t-index in
    let inside : c.products.t-index < length c.args.products.now = omega (arith, c.products-test.true) in
    let is : get_or c.args.products.now c.products.t-index (pos 0) ≡ to_z w32 (of_z w32 (get_or c.args.products.now c.products.t-index (pos 0))) = sym (to_z-of_z w32 _ (search rules)) in
    let same : to_z w32 (of_z w32 c.args.s) ≡ c.args.s = to_z-of_z w32 c.args.s (search rules) in
    let s = to_z w32 (of_z w32 c.args.s) in
    let t = to_z w32 (of_z w32 (get_or c.args.products.now c.products.t-index (pos 0))) in
    let passed : IsIrreducible (quadratic (to_z w32 (of_z w32 c.args.s)) (to_z w32 (of_z w32 (get_or c.args.products.now c.products.t-index (pos 0)))))
    × MayPass c.args.values.now (quadratic (to_z w32 (of_z w32 c.args.s)) (to_z w32 (of_z w32 (get_or c.args.products.now c.products.t-index (pos 0))))) = c.passes.ensures.0 c.if-passes.true in
    let p = err_from_is_err_and c.from_residual.result c.from_residual.ensures.1 in
    rw (p.1, p.2)
    (subst (λ (z : ℤ). IsSearchFault (IsListed z ts) (MayPass v) c.args.self.now.left c.in_err-try_divisor.field-0.0) same
    (sum_fault s ts v i t inside is c.requires.falling c.args.self.now c.products.self c.products.invariant passed.0 passed.1 _ c.in_err-try_divisor.ensures.fault))

pub returns-clause-tried : goal.returns-clause-tried
returns-clause-tried c =
    let same : to_z w32 (of_z w32 c.args.s) ≡ c.args.s = to_z-of_z w32 c.args.s (search rules) in
    let ended : c.products.t-index ≡ length c.args.products.now = omega (arith, c.products-test.false, c.products.auto.t-index-end) in
    let all : take c.products.t-index c.args.products.now ≡ c.args.products.now = ap (λ (n : ℕ). take n c.args.products.now) ended ∙ take-length c.args.products.now in
    subst (λ (z : ℤ). HasTried (IsListed z c.args.products.now) (MayPass c.args.values.now) c.args.self.now c.products.self) same
    (subst (λ (l : List ℤ). HasTried (IsListed (to_z w32 (of_z w32 c.args.s)) l) (MayPass c.args.values.now) c.args.self.now c.products.self) all c.products.invariant)
