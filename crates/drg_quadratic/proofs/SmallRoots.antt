-- The roots 2 and 5.
use Rattle.std.proofs.Common.{ℕ, zero, suc, ◌*◌, ◌<◌, ◌≤◌, arith}
use Rattle.std.specs.Int.{◌∣◌}
use Rattle.std.proofs.lemmas.Nat.Gcd.{le_of_dvd}
use Rattle.drg_algebra.proofs.SmallCases.{five_is_squarefree}
use Rattle.drg_quadratic.specs.Values.{IsRoot}

no_square_in_two : (k : ℕ) → 1 < k → ¬ (k * k ∣ 2)
no_square_in_two zero h d = omega arith
no_square_in_two (suc zero) h d = omega arith
no_square_in_two (suc (suc k)) h d = let small : suc (suc k) * suc (suc k) ≤ 2 = le_of_dvd (omega arith) d in omega (arith, small)

pub two_is_root : IsRoot 2
two_is_root h = (record { free = no_square_in_two }, omega arith)

pub five_is_root : IsRoot 5
five_is_root h = (five_is_squarefree, omega arith)
