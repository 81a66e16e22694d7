-- The sizes of an intersection array, their sum and its intersection numbers, as rationals: an array has them whether
-- they are whole or not (Brouwer, Cohen and Neumaier 1989, section 4.1).
use Rattle.std.specs.Prelude.{◌≡◌, ℕ, ℤ, zero, suc, ◌≤◌, ◌<◌, ◌==◌, pos, ◌*ℤ◌}
use Rattle.drg_algebra.specs.Rational.{ℚ, whole, plus, times, minus}
use Rattle.drg_algebra.specs.Ratio.{ratio}
use Rattle.drg_algebra.specs.Sums.{bit}
use Rattle.drg_algebra.specs.Tables.{total}
use Rattle.drg_array.specs.Entries.{Entries, diameter, b_at, c_at, a_at}

-- x / n, for n from 1
abbrev pub share : ℚ → ℕ → ℚ
share x n = times (ratio (pos 1) (pos n)) x

-- k_0 = 1, and k_(i+1) = k_i b_i / c_(i+1)
abbrev pub size : Entries → ℕ → ℚ
size a zero = whole (pos 1)
size a (suc i) = share (times (size a i) (whole (pos (b_at a i)))) (c_at a (suc i))

-- n = k_0 + .. + k_d
abbrev pub vertex_count : Entries → ℚ
vertex_count a = total (whole (pos 0)) plus (suc (diameter a)) (size a)

-- the number before, absent at 0
abbrev pub before : (ℕ → ℚ) → ℕ → ℚ
before f zero = whole (pos 0)
before f (suc j) = f j

-- What row i and the row before it make of row i + 1, at j:
-- b_(j-1) p_i,j-1 + a_j p_i,j + c_(j+1) p_i,j+1 - b_(i-1) p_i-1,j - a_i p_i,j
abbrev pub numerator : Entries → (ℕ → ℕ → ℚ) → ℕ → ℕ → ℚ
numerator a p i j =
    plus (plus (plus (plus (before (λ l. times (whole (pos (b_at a l))) (p i l)) j) (times (whole (a_at a j)) (p i j)))
    (times (whole (pos (c_at a (suc j)))) (p i (suc j))))
    (minus (before (λ l. times (whole (pos (b_at a l))) (p l j)) i)))
    (minus (times (whole (a_at a i)) (p i j)))

-- p i j are the intersection numbers with upper index h: row 0 is 1 at h and 0 elsewhere, and c_(i+1) times row i + 1 is
-- what the two rows before make
pub record AreIntersectionNumbers (a : Entries) (h : ℕ) (p : ℕ → ℕ → ℚ) : Type 0 where
  pub start : (j : ℕ) → j ≤ diameter a → p 0 j ≡ whole (pos (bit (j == h)))
  pub next : (i j : ℕ) → i < diameter a → j ≤ diameter a → times (whole (pos (c_at a (suc i)))) (p (suc i) j) ≡ numerator a p i j

-- x is p^h_ij
abbrev pub IsIntersectionNumber : Entries → ℕ → ℕ → ℕ → ℚ → Type 0
IsIntersectionNumber a h i j x = (p : ℕ → ℕ → ℚ) × AreIntersectionNumbers a h p × (p i j ≡ x)

-- x is n times a whole number
abbrev pub IsWholeMultiple : ℕ → ℚ → Type 0
IsWholeMultiple n x = (m : ℤ) × (x ≡ whole (pos n *ℤ m))

abbrev pub IsWhole : ℚ → Type 0
IsWhole x = IsWholeMultiple 1 x

-- x is whole, and not negative
abbrev pub IsNatural : ℚ → Type 0
IsNatural x = (m : ℕ) × (x ≡ whole (pos m))
