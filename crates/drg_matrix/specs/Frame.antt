-- Frames of an intersection array of diameter d: the eigenvalues θ_0 to θ_d with the matrices P and Q
-- (Brouwer, Cohen and Neumaier 1989, section 4.1.B).
use Rattle.std.specs.Prelude.{◌≡◌, ℕ, zero, suc, pos, ◌≤◌, ◌<◌, nat_lt, if◌then◌else◌}
use Rattle.drg_algebra.specs.Rational.{whole}
use Rattle.drg_array.specs.Entries.{Entries, diameter, b_at, c_at, a_at}
use Rattle.drg_array.specs.Numbers.{vertex_count}
use Rattle.drg_fraction.specs.Operations.{Operations}
use Rattle.drg_matrix.specs.Table.{IsTableOver}
use Rattle.drg_matrix.specs.Product.{ProductIsScalar}

module _ {V : Type 0} (o : Operations V) where
  -- the value before, absent at 0
  abbrev pub before : (ℕ → V) → ℕ → V
  before f zero = o.nil
  before f (suc j) = f j

  -- b_(j-1) p_(j-1) + a_j p_j + c_(j+1) p_(j+1), where the first term is absent for j = 0 and the last one for j = d
  abbrev pub neighbours : Entries → (ℕ → V) → ℕ → V
  neighbours a p j =
      o.plus (o.plus (before (λ l. o.times (o.rational (whole (pos (b_at a l)))) (p l)) j) (o.times (o.rational (whole (a_at a j))) (p j)))
      (if nat_lt j (diameter a) then o.times (o.rational (whole (pos (c_at a (suc j))))) (p (suc j)) else o.nil)

-- The eigenvalues and matrices of an array, by values over one root: row i of P begins with 1 and θ_i and goes on by the
-- entries of the array, and P Q = n I, where n is the number of vertices.
pub record IsFrame {V : Type 0} (o : Operations V) (a : Entries) (theta : ℕ → V) (p q : ℕ → ℕ → V) : Type 0 where
  pub theta_over : (i : ℕ) → i ≤ diameter a → o.IsOver (theta i)
  pub p_over : IsTableOver o (suc (diameter a)) p
  pub q_over : IsTableOver o (suc (diameter a)) q
  pub descends : (i : ℕ) → i < diameter a → o.IsPositive (o.plus (theta i) (o.minus (theta (suc i))))
  pub ones : (i : ℕ) → i ≤ diameter a → p i 0 ≡ o.unit
  pub eigenvalues : (i : ℕ) → i ≤ diameter a → p i 1 ≡ theta i
  pub recurrence : (i j : ℕ) → i ≤ diameter a → j ≤ diameter a → o.times (theta i) (p i j) ≡ neighbours o a (p i) j
  pub product : ProductIsScalar o (suc (diameter a)) p q (o.rational (vertex_count a))

-- m_i, the multiplicity of θ_i, where q is the matrix Q
abbrev pub multiplicity : {V : Type 0} → (ℕ → ℕ → V) → ℕ → V
multiplicity q i = q 0 i
