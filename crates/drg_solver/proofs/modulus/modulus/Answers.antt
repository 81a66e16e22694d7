use Rattle.std.proofs.Common.{◌≡◌, rules, to_z, of_z, sym, ◌∙◌}
use mir.Syntax.{w128}
use mir.Facts.{to_z-of_z}
use Rattle.drg_solver.proofs.Comparisons.{less, not_less}
use Rattle.drg_solver.proofs.Divisors.{small_divisor, left_divided, fails_modulo}
use Rattle.drg_solver.proofs.modulus.modulus.Goals as goal

pub returns-then-g-lt2-clause-none : goal.returns-then-g-lt2-clause-none
returns-then-g-lt2-clause-none c =
    let is : to_z w128 (of_z w128 c.free_divisor-g.result.value) ≡ c.free_divisor-g.result.value = to_z-of_z {w = w128} (search rules) in
    let small = less _ _ (rw is at c.if-g-lt2.true) in
    small_divisor c.args.room.now.d c.args.room.now.bounds c.args.equation.now c.free_divisor-g.result.value c.free_divisor-g.ensures.room.ordered c.free_divisor-g.ensures.value small

pub returns-then-divides-clause-none : goal.returns-then-divides-clause-none
returns-then-divides-clause-none c =
    let is : to_z w128 (of_z w128 c.free_divisor-g.result.value) ≡ c.free_divisor-g.result.value = to_z-of_z {w = w128} (search rules) in
    let left : to_z w128 (of_z w128 c.left_by_fixed.result.value) ≡ c.left_by_fixed.result.value = to_z-of_z {w = w128} (search rules) in
    let two = not_less _ _ (rw is at c.if-g-lt2.false) in
    let divided = rw (is, left, c.left_by_fixed.ensures) at c.divides.ensures in
    left_divided c.args.room.now.d c.args.room.now.bounds c.args.equation.now c.free_divisor-g.result.value c.free_divisor-g.ensures.value two (sym divided ∙ c.if-divides.true)

pub returns-clause-some : goal.returns-clause-some
returns-clause-some c =
    let is : to_z w128 (of_z w128 c.free_divisor-g.result.value) ≡ c.free_divisor-g.result.value = to_z-of_z {w = w128} (search rules) in
    let left : to_z w128 (of_z w128 c.left_by_fixed.result.value) ≡ c.left_by_fixed.result.value = to_z-of_z {w = w128} (search rules) in
    let two = not_less _ _ (rw is at c.if-g-lt2.false) in
    let divided = rw (is, left, c.left_by_fixed.ensures) at c.divides.ensures in
    rw is (two, fails_modulo c.args.room.now.d c.args.room.now.bounds c.args.equation.now c.free_divisor-g.result.value c.free_divisor-g.ensures.value two (sym divided ∙ c.if-divides.false))
