use Rattle.std.proofs.Common.{◌≡◌, ◌*◌, ◌%◌, ◌<◌, below_more, arith}
use Rattle.std.specs.Int.{◌∣◌}
use Rattle.std.proofs.lemmas.Nat.Gcd.{mod-eq-zero_of_dvd}
use Rattle.drg_quadratic.proofs.TrialDivision.{square_within, double_within, square_above, quotient_above, quotient_less, none_left, product_kept, factor_within, squarefree_by_trial}
use Rattle.drg_quadratic.proofs.squares.split_square.Goals as goal

pub divisors-init : goal.divisors-init
divisors-init c = record { some = c.requires; above = omega arith; product = omega arith; tried = λ k l h. absurd (omega arith) }

pub overflow_mul-square : goal.overflow_mul-square
overflow_mul-square c = omega (arith, square_within c.divisors.divisor c.divisors.root (omega arith))

pub nonzero_rem-rest : goal.nonzero_rem-rest
nonzero_rem-rest c = omega (arith, square_above c.divisors.divisor c.divisors.invariant.above)

pub overflow_add-divisor : goal.overflow_add-divisor
overflow_add-divisor c =
    let d = c.divisors.divisor in
    let n = c.divisors.root in
    omega (arith, double_within d n c.divisors.invariant.above (square_within d n (omega arith)))

pub divisors-preserved-then-rest-ne0 : goal.divisors-preserved-then-rest-ne0
divisors-preserved-then-rest-ne0 c = record {
  some = c.divisors.invariant.some;
  above = omega arith;
  product = c.divisors.invariant.product;
  tried = below_more (λ k. 1 < k → ¬ (k * k ∣ c.divisors.root)) c.divisors.divisor c.divisors.invariant.tried
      (λ h p. c.if-rest-ne0.true (mod-eq-zero_of_dvd (c.divisors.divisor * c.divisors.divisor) p));
}

pub divisors-smaller-then-rest-ne0 : goal.divisors-smaller-then-rest-ne0
divisors-smaller-then-rest-ne0 c =
    let d = c.divisors.divisor in
    let n = c.divisors.root in
    omega (arith, double_within d n c.divisors.invariant.above (square_within d n (omega arith)))

pub overflow_mul-f : goal.overflow_mul-f
overflow_mul-f c =
    let d = c.divisors.divisor in
    let n = c.divisors.root in
    omega (arith, factor_within c.divisors.f d n c.args.x (square_within d n (omega arith)) c.divisors.invariant.product)

pub divisors-preserved : goal.divisors-preserved
divisors-preserved c =
    let d = c.divisors.divisor in
    let n = c.divisors.root in
    let e : n % (d * d) ≡ 0 = omega arith in
    let now = c.divisors.invariant in
    record {
      some = quotient_above (d * d) n now.some e;
      above = now.above;
      product = product_kept c.divisors.f d n c.args.x e now.product;
      tried = λ k l h. none_left (d * d) n k e (now.tried k l h);
    }

pub divisors-smaller : goal.divisors-smaller
divisors-smaller c =
    let d = c.divisors.divisor in
    let n = c.divisors.root in
    let e : n % (d * d) ≡ 0 = omega arith in
    let now = c.divisors.invariant in
    omega (arith, quotient_less (d * d) n (square_above d now.above) now.some e, double_within d n now.above (square_within d n (omega arith)))

pub returns-clause-squarefree : goal.returns-clause-squarefree
returns-clause-squarefree c =
    let d = c.divisors.divisor in
    let n = c.divisors.root in
    let now = c.divisors.invariant in
    squarefree_by_trial d n now.above now.some (omega arith) now.tried
