-- The Krein parameters of a frame of diameter d, here Krein numbers (Brouwer, Cohen and Neumaier 1989, section 2.3).
use Rattle.std.specs.Prelude.{◌≡◌, ℕ, suc, ◌≤◌}
use Rattle.drg_algebra.specs.Tables.{total}
use Rattle.drg_fraction.specs.Operations.{Operations}

module _ {V : Type 0} (o : Operations V) where
  -- x_h is q^h_ij: in each row r of Q, Q_ri Q_rj is the sum over h of x_h Q_rh
  abbrev pub AreKreinNumbersOf : ℕ → (ℕ → ℕ → V) → ℕ → ℕ → (ℕ → V) → Type 0
  AreKreinNumbersOf d q i j x = (r : ℕ) → r ≤ d → o.times (q r i) (q r j) ≡ total o.nil o.plus (suc d) (λ h. o.times (x h) (q r h))

  -- k h i j is q^h_ij for all h, i and j up to d
  abbrev pub AreKreinNumbers : ℕ → (ℕ → ℕ → V) → (ℕ → ℕ → ℕ → V) → Type 0
  AreKreinNumbers d q k = (i j : ℕ) → i ≤ d → j ≤ d → AreKreinNumbersOf d q i j (λ h. k h i j)
