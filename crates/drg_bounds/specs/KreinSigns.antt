-- The test krein: no Krein parameter q^h_ij with 1 ≤ i ≤ j ≤ h is negative
-- (Brouwer, Cohen and Neumaier 1989, section 2.3).
use Rattle.std.specs.Prelude.{ℕ, ◌≤◌}
use Rattle.drg_array.specs.declared.claim.Claim.{Claim}
use Rattle.drg_array.specs.declared.claim.Claim.TheVariants.{Krein}
use Rattle.drg_fraction.specs.Operations.{Operations}
use Rattle.drg_krein.specs.Tables.{KreinTables, krein_in}

module _ {V : Type 0} (o : Operations V) where
  -- x is below 0
  abbrev pub IsNegative : V → Type 0
  IsNegative x = o.IsPositive (o.minus x)

  -- The claim is one of the test krein, and fails at its indices, where d is the diameter and q h i j is q^h_ij.
  abbrev pub FailsKrein : ℕ → (ℕ → ℕ → ℕ → V) → Claim → Type 0
  FailsKrein d q (Krein i j h) = (1 ≤ i) × (i ≤ j) × (j ≤ h) × (h ≤ d) × IsNegative (q h i j)
  FailsKrein d q claim = ⊥

-- the same of the tables of Krein parameters
abbrev pub TablesFailKrein : {A V : Type 0} → (A → V) → (ℕ → Operations V) → KreinTables A → Claim → Type 0
TablesFailKrein value operations t claim = FailsKrein (operations t.root) t.d (krein_in value operations t) claim
