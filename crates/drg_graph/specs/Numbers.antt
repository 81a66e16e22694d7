-- The sizes and the intersection numbers of an array, as far as they are whole
-- (Brouwer, Cohen and Neumaier 1989, section 4.1).
use Rattle.std.specs.Prelude.{◌≡◌, ℕ, ℤ, zero, suc, ◌≤◌, ◌<◌, ◌==◌, pos, ◌+ℤ◌, ◌-ℤ◌, ◌*ℤ◌}
use Rattle.drg_algebra.specs.Sums.{bit}
use Rattle.drg_array.specs.Entries.{Entries, diameter, b_at, c_at, a_at}

-- k 0, .., k m are the first sizes: k_0 = 1, and k_(i+1) c_(i+1) = k_i b_i
pub record AreSizes (a : Entries) (m : ℕ) (k : ℕ → ℤ) : Type 0 where
  pub start : k 0 ≡ pos 1
  pub next : (i : ℕ) → i < m → k (suc i) *ℤ pos (c_at a (suc i)) ≡ k i *ℤ pos (b_at a i)

-- the number before, absent at 0
abbrev pub before : (ℕ → ℤ) → ℕ → ℤ
before f zero = pos 0
before f (suc j) = f j

-- What the rows i and i - 1 make of row i + 1, at j:
-- b_(j-1) p_i,j-1 + a_j p_i,j + c_(j+1) p_i,j+1 - b_(i-1) p_i-1,j - a_i p_i,j
abbrev pub numerator : Entries → (ℕ → ℕ → ℤ) → ℕ → ℕ → ℤ
numerator a p i j =
    before (λ l. pos (b_at a l) *ℤ p i l) j +ℤ a_at a j *ℤ p i j +ℤ pos (c_at a (suc j)) *ℤ p i (suc j)
    -ℤ before (λ l. pos (b_at a l) *ℤ p l j) i -ℤ a_at a i *ℤ p i j

-- The rows p 0, .., p m hold the intersection numbers with upper index h: row 0 is 1 at h and 0 elsewhere, and
-- c_(i+1) times row i + 1 is what the two rows before make
pub record AreRows (a : Entries) (h m : ℕ) (p : ℕ → ℕ → ℤ) : Type 0 where
  pub start : (j : ℕ) → j ≤ diameter a → p 0 j ≡ pos (bit (j == h))
  pub next : (i j : ℕ) → i < m → j ≤ diameter a → pos (c_at a (suc i)) *ℤ p (suc i) j ≡ numerator a p i j
