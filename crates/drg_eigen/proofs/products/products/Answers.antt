use Rattle.std.proofs.Common.{◌≡◌, ◌≢◌, ◌+◌, ◌*◌, ◌<◌, ◌≤◌, rules, arith, ap, sym, ◌∙◌, subst, ℤ, pos, [], ◌∷◌, ◌++◌}
use Rattle.std.specs.Prelude.{◌-ℤ◌, neg_ℤ, unsigned_abs}
use Rattle.std.proofs.lemmas.Int.{ints, to_z-of_z}
use mir.Val.{to_z, of_z}
use mir.Syntax.{w32, w128}
use Rattle.drg_whole.specs.Division.{Divides}
use Rattle.drg_eigen.proofs.FallingNumbers.{AreDown, down_start, down_taken, down_passed, not_nothing, all_divisors}
use Rattle.drg_eigen.proofs.products.products.Goals as goal
use Rattle.drg_eigen.proofs.products.products.Goals.{then-divides+in_ok-push, else-divides}

pub numbers-init : goal.numbers-init
numbers-init c = down_start _ _ c.min-limit.result _ c.new-products.result.items c.new-products.ensures.items (omega (arith, ints))

pub numbers-preserved : goal.numbers-preserved
numbers-preserved c =
    let n = to_z w128 (of_z w128 c.args.number) in
    let limit = c.min-limit.result in
    let steps = c.numbers.steps in
    let some : to_z w128 (of_z w128 c.args.number) ≢ pos 0 = λ e. c.requires.nonzero (sym (to_z-of_z w128 c.args.number (search rules)) ∙ e) in
    let t : to_z w32 (of_z w32 c.below-t.result) ≡ pos c.min-limit.result -ℤ pos c.numbers.steps = to_z-of_z w32 c.below-t.result (search rules) ∙ c.below-t.ensures in
    let next : pos c.min-limit.result -ℤ pos (c.numbers.steps + 1) ≡ (pos c.min-limit.result -ℤ pos c.numbers.steps) -ℤ pos 1 = omega (arith, ints) in
    let inside : c.numbers.steps < 2 * c.min-limit.result + 1 = omega (arith, c.numbers-test.true) in
    let within : c.min-limit.result ≤ c.args.most = omega (arith, c.min-limit.ensures, c.from.ensures) in
    let small : unsigned_abs (pos c.min-limit.result -ℤ pos c.numbers.steps) ≤ c.args.most = omega (arith, ints) in
    elim c.if-divides.branch [
      | then-divides+in_ok-push w ↦ (
          let items : c.if-divides.products.items ≡ c.numbers.products.items ++ (pos c.min-limit.result -ℤ pos c.numbers.steps) ∷ [] =
          ap (λ v. v.items) w.products-is ∙ (w.in_ok-push.ensures.items ∙ ap (λ (z : ℤ). c.numbers.products.items ++ z ∷ []) t) in
          let d : Divides (pos c.min-limit.result -ℤ pos c.numbers.steps) (to_z w128 (of_z w128 c.args.number)) =
          subst (λ (z : ℤ). Divides z (to_z w128 (of_z w128 c.args.number))) t (subst (λ (z : ℤ). Divides (to_z w32 (of_z w32 c.below-t.result)) z) c.new.ensures (c.divides.ensures.0 w.if-divides.true)) in
          subst (AreDown n c.args.most (pos limit) (pos c.min-limit.result -ℤ pos (c.numbers.steps + 1))) (sym items)
          (down_taken n c.args.most (pos limit) (pos limit -ℤ pos steps) _ c.numbers.products.items c.numbers.invariant next d (not_nothing _ n some d) small)
          )
      | else-divides w ↦ (
          let items : c.if-divides.products.items ≡ c.numbers.products.items = ap (λ v. v.items) w.products-is in
          let apart : ¬ Divides (pos c.min-limit.result -ℤ pos c.numbers.steps) (to_z w128 (of_z w128 c.args.number)) =
          λ d. (let yes = c.divides.ensures.1 (subst (λ (z : ℤ). Divides (to_z w32 (of_z w32 c.below-t.result)) z) (sym c.new.ensures) (subst (λ (z : ℤ). Divides z (to_z w128 (of_z w128 c.args.number))) (sym t) d)) in let no = w.if-divides.false in cc) in
          subst (AreDown n c.args.most (pos limit) (pos c.min-limit.result -ℤ pos (c.numbers.steps + 1))) (sym items)
          (down_passed n c.args.most (pos limit) (pos limit -ℤ pos steps) _ c.numbers.products.items c.numbers.invariant next apart)
          )
    ]

pub returns : goal.returns
returns c =
    let n : to_z w128 (of_z w128 c.args.number) ≡ c.args.number = to_z-of_z w128 c.args.number (search rules) in
    let limit = c.min-limit.result in
    let ended : c.numbers.steps ≡ 2 * c.min-limit.result + 1 = omega (arith, c.numbers-test.false, c.numbers.auto.steps-end) in
    let low : pos c.min-limit.result -ℤ pos c.numbers.steps ≡ neg_ℤ (pos c.min-limit.result) -ℤ pos 1 = omega (arith, ints) in
    let size : c.unsigned_abs.result ≡ unsigned_abs c.args.number = c.unsigned_abs.ensures.value ∙ ap unsigned_abs n in
    all_divisors c.args.number c.args.most limit (pos limit -ℤ pos c.numbers.steps) c.numbers.products.items c.requires.nonzero
    (subst (λ (z : ℤ). AreDown z c.args.most (pos c.min-limit.result) (pos c.min-limit.result -ℤ pos c.numbers.steps) c.numbers.products.items) n c.numbers.invariant) low
    (λ k h g. omega (arith, c.min-limit.ensures, c.from.ensures, size))
