-- The test mult: each multiplicity m_1 to m_d is a positive whole number
-- (Brouwer, Cohen and Neumaier 1989, section 4.1.B).
use Rattle.std.specs.Prelude.{◌≡◌, ℕ, ℤ, pos, ◌<ℤ◌, ◌≤◌}
use Rattle.drg_algebra.specs.Rational.{whole}
use Rattle.drg_array.specs.declared.claim.Claim.{Claim}
use Rattle.drg_array.specs.declared.claim.Claim.TheVariants.{Mult}
use Rattle.drg_fraction.specs.Operations.{Operations}
use Rattle.drg_matrix.specs.Frame.{multiplicity}
use Rattle.drg_matrices.specs.Tables.{FrameTables, diameter_of, root_of_tables, dual_in}

module _ {V : Type 0} (o : Operations V) where
  -- x is a whole number above 0
  abbrev pub IsPositiveWhole : V → Type 0
  IsPositiveWhole x = (n : ℤ) × (pos 0 <ℤ n) × (x ≡ o.rational (whole n))

  -- The claim is one of the test mult, and fails at its index, where d is the diameter and q the matrix Q.
  abbrev pub FailsMult : ℕ → (ℕ → ℕ → V) → Claim → Type 0
  FailsMult d q (Mult i) = (1 ≤ i) × (i ≤ d) × (¬ IsPositiveWhole (multiplicity q i))
  FailsMult d q claim = ⊥

-- The claim is one of the test mult, and fails at its index in the tables of a frame.
abbrev pub FrameFailsMult : {A V : Type 0} → (A → V) → (ℕ → Operations V) → FrameTables A → Claim → Type 0
FrameFailsMult value operations t claim = FailsMult (operations (root_of_tables t)) (diameter_of t) (dual_in value operations t) claim
