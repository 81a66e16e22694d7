-- Q-polynomial orderings of Krein parameters (Brouwer, Cohen and Neumaier 1989, section 2.7).
use Rattle.std.specs.Prelude.{ℕ, List}
use Rattle.drg_fraction.specs.Operations.{Operations}
use Rattle.drg_krein.specs.Tables.{KreinTables}
use Rattle.drg_krein.specs.Vanishing.{Vanishes}
use Rattle.drg_orderings.specs.Orderings.{IsOrdering}

module _ {A V : Type 0} (value : A → V) (operations : ℕ → Operations V) (krein : KreinTables A) where
  -- The Krein parameter q^h_ij is 0.
  abbrev pub IsZeroParameter : ℕ → ℕ → ℕ → Type 0
  IsZeroParameter h i j = Vanishes value operations krein i j h

  -- The list is r_1, .., r_d of a Q-polynomial ordering.
  abbrev pub IsQPolynomialOrdering : List ℕ → Type 0
  IsQPolynomialOrdering order = IsOrdering krein.d IsZeroParameter order
