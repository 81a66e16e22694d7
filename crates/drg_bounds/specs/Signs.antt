-- The signs of Krein parameters, one after the other.
use Rattle.std.specs.Prelude.{ℕ, ◌≤◌}
use Rattle.drg_array.specs.declared.claim.Claim.{Claim}
use Rattle.drg_array.specs.declared.claim.Claim.TheVariants.{Krein}
use Rattle.drg_fraction.specs.Operations.{Operations}
use Rattle.drg_krein.specs.Faults.{ComesBefore as IndicesComeBefore}
use Rattle.drg_krein.specs.Tables.{KreinTables, krein_in}
use Rattle.drg_bounds.specs.KreinSigns.{IsNegative}

module _ {A V : Type 0} (value : A → V) (operations : ℕ → Operations V) (t : KreinTables A) where
  -- q^h_ij is negative
  abbrev pub IsNegativeAt : ℕ → ℕ → ℕ → Type 0
  IsNegativeAt i j h = IsNegative (operations t.root) (krein_in value operations t h i j)

  -- no q^h_ij with 1 ≤ i ≤ j ≤ h is negative whose indices come before (k, l, m)
  abbrev pub NoneNegativeBefore : ℕ → ℕ → ℕ → Type 0
  NoneNegativeBefore k l m =
      (i j h : ℕ) → 1 ≤ i → i ≤ j → j ≤ h → h ≤ t.d → IndicesComeBefore i j h k l m → ¬ (IsNegativeAt i j h)

  -- q^m_kl is the first that is
  pub record IsFirstNegativeAt (k l m : ℕ) : Type 0 where
    pub some : 1 ≤ k
    pub ordered : k ≤ l
    pub third : l ≤ m
    pub inside : m ≤ t.d
    pub negative : IsNegativeAt k l m
    pub before : NoneNegativeBefore k l m

  -- the claim names the first that is
  abbrev pub IsFirstNegative : Claim → Type 0
  IsFirstNegative (Krein k l m) = IsFirstNegativeAt k l m
  IsFirstNegative claim = ⊥
