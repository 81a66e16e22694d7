-- No test that is built asks for Krein parameters, so no report has any.
use Rattle.std.proofs.Common.{◌≡◌, ℕ, List, None, Some, refl, sym, subst}
use Rattle.std.specs.Prelude.{Option}
use Rattle.drg_array.specs.declared.test.Test.{Test}
use Rattle.drg_array.specs.declared.test.Test.TheVariants as test
use Rattle.drg_fraction.specs.Fraction.{rational_of}
use Rattle.drg_fraction.specs.Operations.{Operations}
use Rattle.drg_fraction.specs.Rationals.{rational_operations}
use Rattle.drg_fraction.specs.declared.fraction.Fraction.{Fraction}
use Rattle.drg_krein.specs.Tables.{KreinTables}
use Rattle.drg_matrices.specs.Tables.{FrameTables}
use Rattle.drg_quadratic.specs.Operations.{value_operations}
use Rattle.drg_quadratic.specs.Quadratic.{value_of}
use Rattle.drg_quadratic.specs.declared.quadratic.Quadratic.{Quadratic as TheQuadratic}
use Rattle.drg_report.specs.declared.verdict.Spectra.{Spectra}
use Rattle.drg_report.specs.declared.verdict.Spectra.TheVariants.{Rational, Quadratic}
use Rattle.drg_engine.specs.Causes.{AsksForKrein}
use Rattle.drg_engine.specs.Conditions.{IsBuilt}
use Rattle.drg_engine.specs.Parameters.{HasParameters, HasParametersOver, HaveNoParameters, SomeAsksForKrein}

not_asked : (t : Test) → IsBuilt t → AsksForKrein t → ⊥
not_asked test.Krein built asks = absurd built
not_asked test.Absolute built asks = absurd built
not_asked test.Ktriple built asks = absurd built
not_asked t built asks = absurd asks

none_asks : (tests : List Test) → ¬ SomeAsksForKrein tests
none_asks tests (t, runs, asks) = not_asked t runs.0 asks

module _ {A V : Type 0} (value : A → V) (operations : ℕ → Operations V) (tests : List Test) (frame : FrameTables A) where
  pub none_over : (krein : Option (KreinTables A)) (orders : Option (List (List ℕ))) → HasParametersOver value operations tests frame krein orders
      → (krein ≡ None) × (orders ≡ None)
  none_over None None has = (refl, refl)
  none_over None (Some orders) has = absurd has
  none_over (Some krein) None has = absurd has
  none_over (Some krein) (Some orders) has = absurd (none_asks tests has.0)

pub no_orderings : (tests : List Test) (spectra : Option Spectra) (orders : Option (List (List ℕ))) → HasParameters tests spectra orders → orders ≡ None
no_orderings tests None None has = refl
no_orderings tests None (Some orders) has = absurd has
no_orderings tests (Some (Rational x)) orders has = (none_over rational_of (λ root. rational_operations) tests x.frame x.krein orders has).1
no_orderings tests (Some (Quadratic x)) orders has = (none_over value_of value_operations tests x.frame x.krein orders has).1

pub without_tables : (tests : List Test) → HasParameters tests None None
without_tables tests = none_asks tests

pub with_tables : (tests : List Test) (spectra : Spectra) → HaveNoParameters spectra → HasParameters tests (Some spectra) None
with_tables tests (Rational x) none =
    subst (λ (k : Option (KreinTables Fraction)). HasParametersOver rational_of (λ root. rational_operations) tests x.frame k None) (sym none) (none_asks tests)
with_tables tests (Quadratic x) none =
    subst (λ (k : Option (KreinTables TheQuadratic)). HasParametersOver value_of value_operations tests x.frame k None) (sym none) (none_asks tests)
