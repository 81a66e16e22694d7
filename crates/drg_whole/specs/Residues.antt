-- Residues of whole numbers, and divisibility.
use Rattle.std.specs.Prelude.{◌≡◌, ℕ, ℤ, pos, ◌<◌, ◌+ℤ◌, ◌*ℤ◌, unsigned_abs, nat_eq, Bool}
use Rattle.std.specs.Int.{int_rem_euclid}

-- r is the number from 0 to m - 1 that differs from z by a multiple of m
pub record IsResidue (m : ℕ) (z : ℤ) (r : ℕ) : Type 0 where
  pub below : r < m
  pub times : ℤ
  pub is : z ≡ pos r +ℤ pos m *ℤ times

-- that number, where m isn't 0
abbrev pub residue : ℕ → ℤ → ℕ
residue m z = unsigned_abs (int_rem_euclid z (pos m))

-- m divides z, as a test
abbrev pub divides : ℕ → ℤ → Bool
divides m z = nat_eq (residue m z) 0
