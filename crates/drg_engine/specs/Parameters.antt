-- The Krein parameters and the orderings of an array that passes its tests.
use Rattle.std.specs.Prelude.{◌≡◌, ℕ, List, Option, Some, None}
use Rattle.drg_array.specs.declared.test.Test.{Test}
use Rattle.drg_fraction.specs.Fraction.{rational_of}
use Rattle.drg_fraction.specs.Operations.{Operations}
use Rattle.drg_fraction.specs.Rationals.{rational_operations}
use Rattle.drg_krein.specs.Tables.{KreinTables, krein_in}
use Rattle.drg_matrices.specs.Tables.{FrameTables, diameter_of, dual_in, root_of_tables}
use Rattle.drg_matrix.specs.Krein.{AreKreinNumbers}
use Rattle.drg_orderings.specs.Orderings.{AreOrderings}
use Rattle.drg_orderings.specs.QPolynomial.{IsQPolynomialOrdering}
use Rattle.drg_quadratic.specs.Operations.{value_operations}
use Rattle.drg_quadratic.specs.Quadratic.{value_of}
use Rattle.drg_report.specs.declared.verdict.Spectra.{Spectra}
use Rattle.drg_report.specs.declared.verdict.Spectra.TheVariants.{Rational, Quadratic}
use Rattle.drg_engine.specs.Causes.{AsksForKrein}
use Rattle.drg_engine.specs.Selections.{Runs}

-- a test that runs asks for the Krein parameters
abbrev pub SomeAsksForKrein : List Test → Type 0
SomeAsksForKrein tests = (t : Test) × Runs tests t × AsksForKrein t

module _ {A V : Type 0} (value : A → V) (operations : ℕ → Operations V) where
  -- The tables are the Krein parameters of the frame, and the list has exactly their Q-polynomial
  -- orderings.
  pub record AreParametersOf (frame : FrameTables A) (krein : KreinTables A) (orders : List (List ℕ)) : Type 0 where
    pub same_d : krein.d ≡ diameter_of frame
    pub same_root : krein.root ≡ root_of_tables frame
    pub parameters : AreKreinNumbers (operations (root_of_tables frame)) (diameter_of frame)
        (dual_in value operations frame) (krein_in value operations krein)
    pub orderings : AreOrderings (IsQPolynomialOrdering value operations krein) orders

  -- both are there exactly where a test that runs asks for the parameters
  abbrev pub HasParametersOver : List Test → FrameTables A → Option (KreinTables A) → Option (List (List ℕ)) → Type 0
  HasParametersOver tests frame None None = ¬ SomeAsksForKrein tests
  HasParametersOver tests frame None (Some orders) = ⊥
  HasParametersOver tests frame (Some krein) None = ⊥
  HasParametersOver tests frame (Some krein) (Some orders) =
      SomeAsksForKrein tests × AreParametersOf frame krein orders

-- the same of the tables of a verdict
abbrev pub HasParameters : List Test → Option Spectra → Option (List (List ℕ)) → Type 0
HasParameters tests None None = ¬ SomeAsksForKrein tests
HasParameters tests None (Some orders) = ⊥
HasParameters tests (Some (Rational tables)) orders =
    HasParametersOver rational_of (λ root. rational_operations) tests tables.frame tables.krein orders
HasParameters tests (Some (Quadratic tables)) orders =
    HasParametersOver value_of value_operations tests tables.frame tables.krein orders

-- the tables have no Krein parameters
abbrev pub HaveNoParameters : Spectra → Type 0
HaveNoParameters (Rational tables) = tables.krein ≡ None
HaveNoParameters (Quadratic tables) = tables.krein ≡ None
