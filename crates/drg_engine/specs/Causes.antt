-- Why a test can't be decided on an array, and what is noted of it then.
use Rattle.std.specs.Prelude.{◌≡◌, List, [], ◌∷◌}
use Rattle.drg_array.specs.Entries.{Entries}
use Rattle.drg_array.specs.declared.test.Test.{Test}
use Rattle.drg_array.specs.declared.test.Test.TheVariants as test
use Rattle.drg_eigen.specs.declared.split.OtherSpectrum.{OtherSpectrum}
use Rattle.drg_report.specs.declared.verdict.Cause.{Cause}
use Rattle.drg_report.specs.declared.verdict.Cause.TheVariants.{Wide, Spectrum}
use Rattle.drg_report.specs.declared.verdict.Pending.{Pending}
use Rattle.drg_engine.specs.Frames.{HasOtherSpectrum, IsFirstTooWide, IsFrameReached}

-- the test asks for the frame of the array
abbrev pub IsSpectral : Test → Type 0
IsSpectral test.First = ⊥
IsSpectral test.Degree = ⊥
IsSpectral test.Order = ⊥
IsSpectral test.Cross = ⊥
IsSpectral test.Size = ⊥
IsSpectral test.Intersect = ⊥
IsSpectral test.Handshake = ⊥
IsSpectral test.Induced = ⊥
IsSpectral test.Triangles = ⊥
IsSpectral test.Mult = Unit {0}
IsSpectral test.Krein = Unit {0}
IsSpectral test.Absolute = Unit {0}
IsSpectral test.Triple = ⊥
IsSpectral test.Ktriple = Unit {0}

-- the test asks for the Krein parameters of the array too
abbrev pub AsksForKrein : Test → Type 0
AsksForKrein test.Krein = Unit {0}
AsksForKrein test.Absolute = Unit {0}
AsksForKrein test.Ktriple = Unit {0}
AsksForKrein t = ⊥

-- why the frame of the array isn't made
abbrev pub IsFrameCause : Entries → Cause → Type 0
IsFrameCause a (Wide node) = IsFirstTooWide a node
IsFrameCause a Spectrum = (other : OtherSpectrum) × HasOtherSpectrum a other

-- Why the test can't be decided, where its numbers k, n and p are made. Those on counts can.
abbrev pub IsCause : Entries → Test → Cause → Type 0
IsCause a test.Mult cause = IsFrameCause a cause
IsCause a t cause = ⊥

-- the numbers on which the test rests besides k, n and p are made
abbrev pub IsDecidable : Entries → Test → Type 0
IsDecidable a test.Mult = IsFrameReached a
IsDecidable a t = Unit {0}

-- the entries of a test that can't be decided: one with its cause
abbrev pub AreEntriesOf : Entries → Test → List Pending → Type 0
AreEntriesOf a t entries =
    (cause : Cause) × IsCause a t cause × (entries ≡ record { test = t; cause = cause } ∷ [])
