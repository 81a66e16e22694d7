-- The test absolute: for 1 ≤ i ≤ j the sum of the multiplicities m_h, over all h from 0 with q^h_ij not 0, is at most
-- m_i m_j, or at most m_i (m_i + 1) / 2 where j is i (Brouwer, Cohen and Neumaier 1989, section 2.3).
use Rattle.std.specs.Prelude.{◌≡◌, ℕ, pos, ◌≤◌, ◌<◌, ◌==◌, ◌↔◌, if◌then◌else◌, List, map, Contains}
use Rattle.std.specs.List.{AllPairs}
use Rattle.drg_algebra.specs.Rational.{whole}
use Rattle.drg_array.specs.declared.claim.Claim.{Claim}
use Rattle.drg_array.specs.declared.claim.Claim.TheVariants.{Absolute}
use Rattle.drg_fraction.specs.Operations.{Operations}
use Rattle.drg_fraction.specs.Field.{sum_of}
use Rattle.drg_matrix.specs.Frame.{multiplicity}
use Rattle.drg_matrices.specs.Tables.{FrameTables, diameter_of, dual_in}
use Rattle.drg_matrices.specs.Values.{difference, quotient}
use Rattle.drg_krein.specs.Tables.{KreinTables, krein_in}

-- The diameter d, the multiplicities m_0 to m_d, and the Krein parameters: q h i j is q^h_ij.
pub record BoundValues (V : Type 0) : Type 0 where
  pub d : ℕ
  pub m : ℕ → V
  pub q : ℕ → ℕ → ℕ → V

-- those of a frame and of its Krein parameters
abbrev pub values_in : {A V : Type 0} → (A → V) → (ℕ → Operations V) → FrameTables A → KreinTables A → BoundValues V
values_in value operations frame krein = record {
  d = diameter_of frame;
  m = multiplicity (dual_in value operations frame);
  q = krein_in value operations krein;
}

module _ {V : Type 0} (o : Operations V) where
  -- a whole number as a value, and x (x + 1) / 2
  abbrev pub whole_value : ℕ → V
  whole_value n = o.rational (whole (pos n))

  abbrev pub half_product : V → V
  half_product x = quotient o (o.times x (o.plus x (whole_value 1))) (whole_value 2)

  module _ (m : ℕ → V) where
    -- the sum of the multiplicities m_h over a list of h
    abbrev pub sum_over : List ℕ → V
    sum_over hs = sum_of o (map m hs)

    -- the greatest sum that is allowed for i and j
    abbrev pub allowed : ℕ → ℕ → V
    allowed i j = if i == j then half_product (m i) else o.times (m i) (m j)

  module _ (b : BoundValues V) where
    -- the list has exactly the h from 0 to d with q^h_ij not 0, ascending
    pub record AreNonvanishing (i j : ℕ) (hs : List ℕ) : Type 0 where
      pub members : (h : ℕ) → Contains hs h ↔ ((h ≤ b.d) × (¬ (b.q h i j ≡ o.nil)))
      pub ascending : AllPairs (λ g h. g < h) hs

    -- their sum is above the one that is allowed
    pub record IsExceeded (i j : ℕ) : Type 0 where
      pub indices : List ℕ
      pub are : AreNonvanishing i j indices
      pub above : o.IsPositive (difference o (sum_over b.m indices) (allowed b.m i j))

    -- The claim is one of the test absolute, and fails at its indices.
    abbrev pub FailsAbsolute : Claim → Type 0
    FailsAbsolute (Absolute i j) = (1 ≤ i) × (i ≤ j) × (j ≤ b.d) × IsExceeded i j
    FailsAbsolute claim = ⊥
