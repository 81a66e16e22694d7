-- What tests of numbers say.
use Rattle.std.proofs.Common.{◌≡◌, true, false, ℤ, ◌≤ℤ◌, ◌<ℤ◌, arith}
use Rattle.std.specs.Int.Signed.{lt_z, le_z}
use Rattle.std.proofs.lemmas.Int.{ints}

pub less : (x y : ℤ) → lt_z x y ≡ true → x <ℤ y
less x y h = grind (arith, ints)

pub not_less : (x y : ℤ) → lt_z x y ≡ false → y ≤ℤ x
not_less x y h = grind (arith, ints)

pub not_at_most : (x y : ℤ) → le_z x y ≡ false → y <ℤ x
not_at_most x y h = grind (arith, ints)
