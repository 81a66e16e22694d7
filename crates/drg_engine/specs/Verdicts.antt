-- What it is for a verdict on an array to be right.
use Rattle.std.specs.Prelude.{◌≡◌, ◌<◌, ◌⊎◌, List, [], ◌∷◌, Contains, Ok, Option, Some, None}
use Rattle.drg_array.specs.Entries.{Entries, diameter}
use Rattle.drg_array.specs.ClaimOrder.{ComesBefore}
use Rattle.drg_array.specs.Claims.{class_of, test_of}
use Rattle.drg_array.specs.declared.test.Test.{Test}
use Rattle.drg_array.specs.declared.test.Test.TheVariants as test
use Rattle.drg_array.specs.declared.claim.Claim.{Claim}
use Rattle.drg_array.specs.declared.claim.Class.TheVariants.{Counting}
use Rattle.drg_array.specs.declared.node.Node.{Node}
use Rattle.drg_array.specs.declared.node.Node.TheVariants.{K, N, P}
use Rattle.drg_fraction.specs.Fraction.{rational_of}
use Rattle.drg_fraction.specs.Rationals.{rational_operations}
use Rattle.drg_graph.specs.Graph.{NoGraph}
use Rattle.drg_intersection.specs.Faults.{AllPass, IsFirstWide}
use Rattle.drg_intersection.specs.Numbers.{AreNumbersOf}
use Rattle.drg_orderings.specs.Orderings.{AreOrderings}
use Rattle.drg_orderings.specs.PPolynomial.{IsPPolynomialOrdering}
use Rattle.drg_quadratic.specs.Operations.{value_operations}
use Rattle.drg_quadratic.specs.Quadratic.{value_of}
use Rattle.drg_replay.specs.Answers.{answer_of}
use Rattle.drg_report.specs.declared.verdict.Cause.TheVariants.{Wide}
use Rattle.drg_report.specs.declared.verdict.Pending.{Pending}
use Rattle.drg_report.specs.declared.verdict.Infeasible.{Infeasible}
use Rattle.drg_report.specs.declared.verdict.Undecided.{Undecided}
use Rattle.drg_report.specs.declared.verdict.RefusedSpectrum.{RefusedSpectrum}
use Rattle.drg_report.specs.declared.verdict.Spectra.{Spectra}
use Rattle.drg_report.specs.declared.verdict.Spectra.TheVariants.{Rational, Quadratic}
use Rattle.drg_report.specs.declared.verdict.Survivor.{Survivor}
use Rattle.drg_report.specs.declared.verdict.Verdict.{Verdict}
use Rattle.drg_report.specs.declared.verdict.Verdict.TheVariants as verdict
use Rattle.drg_matrices.specs.Tables.{diameter_of, root_of_tables}
use Rattle.drg_engine.specs.Causes.{IsDecidable, IsSpectral}
use Rattle.drg_engine.specs.Conditions.{Holds, Fails}
use Rattle.drg_engine.specs.Found.{AllAreSpectrum, AreFound, IsCertificate, IsPassed, SomeIsWide}
use Rattle.drg_engine.specs.Frames.{HasOtherSpectrum}
use Rattle.drg_engine.specs.Parameters.{HasParameters}
use Rattle.drg_engine.specs.Selections.{AreTests, Runs, RunsBefore}
use Rattle.drg_evidence.specs.FrameValues.{HasFrame, values_of}
use Rattle.drg_evidence.specs.Lines.{AreLinesOf}
use Rattle.drg_evidence.specs.Made.{AreMade}

-- The array fails the claim, a claim of a test that runs, and no claim of this test that comes
-- before it.
pub record IsFirstFailing (a : Entries) (tests : List Test) (claim : Claim) : Type 0 where
  pub runs : Runs tests (test_of claim)
  pub fails : Fails a claim
  pub first : (earlier : Claim) → test_of earlier ≡ test_of claim → ComesBefore earlier claim
      → Fails a earlier → ⊥

-- Each of the tests that run before this one holds, or can't be decided and has its entries.
pub record IsFoundBefore (a : Entries) (tests : List Test) (last : Test) (pending : List Pending) : Type 0 where
  pub ran : List Test
  pub passed : List Test
  pub all_ran : AreTests (RunsBefore tests last) ran
  pub found : AreFound a ran passed pending

-- The first failing claim of a test, with its derivation.
pub record IsInfeasible (a : Entries) (tests : List Test) (found : Infeasible) : Type 0 where
  pub claimed : IsFirstFailing a tests found.claim
  pub before : IsFoundBefore a tests (test_of found.claim) found.pending
  pub certificate : IsCertificate a found.pending found.other
  -- the derivation shows the claim by its lines, and the numbers on which it rests are made
  pub same_array : found.derivation.array ≡ a
  pub same_claim : found.derivation.claim ≡ found.claim
  pub lines : AreLinesOf a found.claim found.derivation.lines
  pub made : AreMade a found.claim
  pub decidable : IsDecidable a (test_of found.claim)
  -- it is accepted with the class of the claim, and what is derived by counting alone excludes
  -- every graph
  pub same_class : found.class ≡ class_of found.claim
  pub accepted : answer_of found.derivation ≡ Ok found.class
  pub graph : found.class ≡ Counting → NoGraph a

-- the test of which the number is a part
abbrev pub IsNodeOf : Test → Node → Type 0
IsNodeOf test.Size (K i) = Unit {0}
IsNodeOf test.Size N = Unit {0}
IsNodeOf test.Intersect (P h i j) = Unit {0}
IsNodeOf t node = ⊥

-- the one entry of the list is of the test of this number, as it is too wide
abbrev pub IsWideEntry : Test → Node → List Pending → Type 0
IsWideEntry t node pending =
    IsNodeOf t node × (pending ≡ record { test = t; cause = Wide node } ∷ [])

-- The first number that fails doesn't fit, so the test of which it is a part can't be decided, and
-- no later test runs.
pub record IsStopped (a : Entries) (tests : List Test) (found : Undecided) : Type 0 where
  pub last : Test
  pub node : Node
  pub wide : IsFirstWide a node
  pub entry : IsWideEntry last node found.pending
  pub all_passed : AreTests (RunsBefore tests last) found.passed
  pub held : (t : Test) → Contains found.passed t → Holds a t
  pub no_certificate : found.other ≡ None

-- The numbers k, n and p of the array are made. Each test that runs holds and is in the list of
-- those that passed, or can't be decided and has its entries.
pub record AreAllFound (a : Entries) (tests passed : List Test) (pending : List Pending) : Type 0 where
  pub pass : AllPass a
  pub ran : List Test
  pub all_ran : AreTests (Runs tests) ran
  pub found : AreFound a ran passed pending

-- No test fails, and one can't be decided since a number is too wide.
pub record IsOpen (a : Entries) (tests : List Test) (found : Undecided) : Type 0 where
  pub found_all : AreAllFound a tests found.passed found.pending
  pub some : SomeIsWide found.pending
  pub certificate : IsCertificate a found.pending found.other

-- a number k, n or p is too wide, or another one
abbrev pub IsUndecided : Entries → List Test → Undecided → Type 0
IsUndecided a tests found = IsStopped a tests found ⊎ IsOpen a tests found

-- No test fails, and those that can't be decided are those that ask for all eigenvalues in one
-- quadratic field. There is such a test, and the certificate shows that no such field holds them.
pub record IsRefused (a : Entries) (tests : List Test) (found : RefusedSpectrum) : Type 0 where
  pub found_all : AreAllFound a tests found.passed found.pending
  pub spectrum : AllAreSpectrum found.pending
  pub certificate : HasOtherSpectrum a found.other

-- these tables are the frame of the array, over root 0 where its eigenvalues are rational
abbrev pub AreSpectraOf : Entries → Spectra → Type 0
AreSpectraOf a (Rational tables) =
    (diameter_of tables.frame ≡ diameter a) × (root_of_tables tables.frame ≡ 0)
    × HasFrame a (values_of rational_of (λ root. rational_operations) tables.frame)
AreSpectraOf a (Quadratic tables) =
    (diameter_of tables.frame ≡ diameter a) × (0 < root_of_tables tables.frame)
    × HasFrame a (values_of value_of value_operations tables.frame)

-- the frame of the array is there exactly where a test that runs asks for it
abbrev pub HasSpectra : Entries → List Test → Option Spectra → Type 0
HasSpectra a tests None = (t : Test) → Runs tests t → IsSpectral t → ⊥
HasSpectra a tests (Some spectra) =
    (t : Test) × Runs tests t × IsSpectral t × AreSpectraOf a spectra

-- Each test that runs holds, these are the numbers of the array, and its frame and its Krein
-- parameters where these are asked for, and exactly its orderings.
pub record IsSurvivor (a : Entries) (tests : List Test) (found : Survivor) : Type 0 where
  pub all_passed : AreTests (Runs tests) found.passed
  pub held : (t : Test) → Contains found.passed t → IsPassed a t
  pub numbers_of : AreNumbersOf a found.numbers
  pub pass : AllPass a
  pub spectra_of : HasSpectra a tests found.spectra
  pub p_orderings_of : AreOrderings (IsPPolynomialOrdering found.numbers) found.p_orderings
  pub parameters_of : HasParameters tests found.spectra found.q_orderings

-- The verdict is right for the array and the selected tests.
abbrev pub VerdictHolds : Entries → List Test → Verdict → Type 0
VerdictHolds a tests (verdict.Infeasible found) = IsInfeasible a tests found
VerdictHolds a tests (verdict.Undecided found) = IsUndecided a tests found
VerdictHolds a tests (verdict.RefusedSpectrum found) = IsRefused a tests found
VerdictHolds a tests (verdict.Survivor found) = IsSurvivor a tests found
