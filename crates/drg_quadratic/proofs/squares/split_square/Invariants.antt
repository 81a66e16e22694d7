use Rattle.std.proofs.Common.{◌≡◌, ℕ, ◌+◌, ◌-◌, ◌*◌, ◌<◌}
use Rattle.std.specs.Int.{◌∣◌}
use Rattle.drg_quadratic.proofs.squares.split_square.Given as goal

abbrev pub invariant-divisors : goal.invariant-divisors
invariant-divisors l = record {
  some : 0 < l.root;
  above : 1 < l.divisor;
  product : (l.f * l.f) * l.root ≡ l.fn.x;
  tried : (k : ℕ) → k < l.divisor → 1 < k → ¬ (k * k ∣ l.root);
}

abbrev pub decreases-divisors : goal.decreases-divisors
decreases-divisors l = (l.root + 1) - l.divisor
