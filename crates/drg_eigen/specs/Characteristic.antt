-- The polynomials F_j of an intersection array and its characteristic polynomial
-- (Brouwer, Cohen and Neumaier 1989, section 4.1.B).
use Rattle.std.specs.Prelude.{ℕ, ℤ, zero, suc, pos, ◌*ℤ◌, List}
use Rattle.drg_algebra.specs.Integer.{whole_numbers}
use Rattle.drg_array.specs.Entries.{Entries, diameter, b_at, c_at, a_at}
use Rattle.drg_eigen.specs.Recurrence.{chain}

-- b_(j-1) c_j, absent for j = 0
abbrev pub weight_at : Entries → ℕ → ℤ
weight_at a zero = pos 0
weight_at a (suc j) = pos (b_at a j) *ℤ pos (c_at a (suc j))

-- F_0 = 1, F_1 = x, F_(j+1) = (x - a_j) F_j - b_(j-1) c_j F_(j-1), by their coefficients from the constant upwards
abbrev pub polynomial : Entries → ℕ → List ℤ
polynomial a j = chain whole_numbers (a_at a) (weight_at a) j

-- F_(d+1), whose roots are the eigenvalues of an array of diameter d
abbrev pub characteristic : Entries → List ℤ
characteristic a = polynomial a (suc (diameter a))
