-- The test of the range says what the range says.
use Rattle.std.proofs.Common.{◌≡◌, true, false, ℤ, arith}
use Rattle.std.proofs.lemmas.Bool.Decides.{nat_tests}
use Rattle.drg_whole.specs.Range.{InRange, in_range}

pub fits : (z : ℤ) → InRange z → in_range z ≡ true
fits z h = grind (arith, nat_tests)

pub fitting : (z : ℤ) → in_range z ≡ true → InRange z
fitting z e = grind (arith, nat_tests)

pub not_fitting : (z : ℤ) → in_range z ≡ false → ¬ InRange z
not_fitting z e h = grind (arith, nat_tests)
