-- What is found of the tests that run.
use Rattle.std.specs.Prelude.{◌≡◌, ◌≢◌, ◌⊎◌, List, [], ◌∷◌, ◌++◌, Contains, Option, Some, None}
use Rattle.drg_array.specs.Entries.{Entries}
use Rattle.drg_array.specs.declared.test.Test.{Test}
use Rattle.drg_eigen.specs.declared.split.OtherSpectrum.{OtherSpectrum}
use Rattle.drg_report.specs.declared.verdict.Cause.{Cause}
use Rattle.drg_report.specs.declared.verdict.Cause.TheVariants.{Wide, Spectrum}
use Rattle.drg_report.specs.declared.verdict.Pending.{Pending}
use Rattle.drg_engine.specs.Causes.{AreEntriesOf, IsDecidable}
use Rattle.drg_engine.specs.Conditions.{Holds}
use Rattle.drg_engine.specs.Frames.{HasOtherSpectrum}

-- The test holds, and is decided.
pub record IsPassed (a : Entries) (t : Test) : Type 0 where
  pub holds : Holds a t
  pub decidable : IsDecidable a t

-- Each test of the list holds and is among those that passed, or can't be decided and has its
-- entries among the pending ones. Both are in the order of the list.
abbrev pub AreFound : Entries → List Test → List Test → List Pending → Type 0
AreFound a [] passed pending = (passed ≡ []) × (pending ≡ [])
AreFound a (t ∷ ts) passed pending =
    (IsPassed a t
    × (others : List Test) × (passed ≡ t ∷ others) × AreFound a ts others pending)
    ⊎ ((entries : List Pending) × (others : List Pending) × AreEntriesOf a t entries
    × (pending ≡ entries ++ others) × AreFound a ts passed others)

abbrev pub IsWide : Cause → Type 0
IsWide (Wide node) = Unit {0}
IsWide Spectrum = ⊥

-- an entry has a number that is too wide
abbrev pub SomeIsWide : List Pending → Type 0
SomeIsWide pending = (entry : Pending) × Contains pending entry × IsWide entry.cause

-- an entry says that no one quadratic field holds the eigenvalues
abbrev pub SomeIsSpectrum : List Pending → Type 0
SomeIsSpectrum pending = (entry : Pending) × Contains pending entry × (entry.cause ≡ Spectrum)

-- there are entries, and each of them says so
pub record AllAreSpectrum (pending : List Pending) : Type 0 where
  pub some : SomeIsSpectrum pending
  pub all : (entry : Pending) → Contains pending entry → entry.cause ≡ Spectrum

-- the certificate of the spectrum is there exactly where an entry says so
abbrev pub IsCertificate : Entries → List Pending → Option OtherSpectrum → Type 0
IsCertificate a pending None = ¬ SomeIsSpectrum pending
IsCertificate a pending (Some other) = SomeIsSpectrum pending × HasOtherSpectrum a other
