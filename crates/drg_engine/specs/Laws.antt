-- Laws of conditions, of derivations and of verdicts.
use Rattle.std.specs.Prelude.{◌≡◌, List, Ok, Contains}
use Rattle.drg_array.specs.Entries.{Entries, IsArray}
use Rattle.drg_array.specs.Claims.{class_of, test_of}
use Rattle.drg_array.specs.TestLists.{IsSelection}
use Rattle.drg_array.specs.declared.test.Test.{Test}
use Rattle.drg_array.specs.declared.claim.Claim.{Claim}
use Rattle.drg_array.specs.declared.node.Node.{Node}
use Rattle.drg_derivation.specs.Content.{Content}
use Rattle.drg_derivation.specs.Text.{HasText}
use Rattle.drg_counting.specs.EntryTests.{IsBasic}
use Rattle.drg_intersection.specs.Faults.{IsFirstWide}
use Rattle.drg_replay.specs.Answers.{answer_of}
use Rattle.drg_eigen.specs.declared.split.OtherSpectrum.{OtherSpectrum}
use Rattle.drg_report.specs.Texts.{report_text}
use Rattle.drg_report.specs.declared.verdict.Cause.{Cause}
use Rattle.drg_report.specs.declared.verdict.Cause.TheVariants.{Wide}
use Rattle.drg_report.specs.declared.verdict.Verdict.{Verdict}
use Rattle.drg_report.specs.declared.verdict.Verdict.TheVariants.{Infeasible, Undecided, RefusedSpectrum, Survivor}
use Rattle.drg_engine.specs.Causes.{IsDecidable, IsSpectral}
use Rattle.drg_engine.specs.Conditions.{Fails, Holds, IsBuilt}
use Rattle.drg_evidence.specs.FrameValues.{FrameValues, HasFrame}
use Rattle.drg_evidence.specs.Lines.{AreLinesOf}
use Rattle.drg_evidence.specs.Made.{AreMade}
use Rattle.drg_engine.specs.Frames.{HasOtherSpectrum, IsFirstTooWide}
use Rattle.drg_engine.specs.Selections.{Runs}
use Rattle.drg_engine.specs.Verdicts.{IsWideEntry, VerdictHolds}

-- a test that is built doesn't hold where a claim of it fails
abbrev pub FailingTestsDontHold : Type 0
FailingTestsDontHold =
    (a : Entries) (claim : Claim) → IsArray a → IsBuilt (test_of claim) → Fails a claim
    → ¬ Holds a (test_of claim)

-- the array has a frame, where the test asks for one
abbrev pub HasFrameFor : Entries → Test → Type 0
HasFrameFor a t = IsSpectral t → (f : FrameValues) × HasFrame a f

-- and it holds where none of its claims fails
abbrev pub UnfailedTestsHold : Type 0
UnfailedTestsHold =
    (a : Entries) (t : Test) → IsBuilt t → HasFrameFor a t
    → ((claim : Claim) → test_of claim ≡ t → Fails a claim → ⊥) → Holds a t

-- each selected test runs
abbrev pub SelectedTestsRun : Type 0
SelectedTestsRun =
    (tests : List Test) (t : Test) → IsSelection tests → Contains tests t → Runs tests t

-- The array fails the claim, a claim of a test that is built; the lines are those of the claim, and
-- the numbers on which it rests are made.
pub record ShowsFailure (derivation : Content) : Type 0 where
  pub array : IsArray derivation.array
  pub built : IsBuilt (test_of derivation.claim)
  pub fails : Fails derivation.array derivation.claim
  pub lines : AreLinesOf derivation.array derivation.claim derivation.lines
  pub made : AreMade derivation.array derivation.claim

-- such a derivation is accepted, with the class of its claim
abbrev pub AcceptanceLaw : Type 0
AcceptanceLaw =
    (derivation : Content) → ShowsFailure derivation
    → answer_of derivation ≡ Ok (class_of derivation.claim)

-- and it has a text
abbrev pub TextLaw : Type 0
TextLaw = (derivation : Content) → ShowsFailure derivation → HasText derivation

-- no number k, n or p is too wide whose formula is reached
abbrev pub NoneIsWide : Entries → Type 0
NoneIsWide a = (node : Node) → IsFirstWide a node → ⊥

-- each test that runs rests on numbers that are made
abbrev pub EachIsDecidable : Entries → List Test → Type 0
EachIsDecidable a tests = (t : Test) → Runs tests t → IsDecidable a t

-- what a verdict says then: infeasible where a test that runs doesn't hold, and a survivor where
-- each holds
abbrev pub IsDecided : Entries → List Test → Verdict → Type 0
IsDecided a tests (Infeasible found) =
    Runs tests (test_of found.claim) × ¬ Holds a (test_of found.claim)
IsDecided a tests (Undecided found) = ⊥
IsDecided a tests (RefusedSpectrum found) = ⊥
IsDecided a tests (Survivor found) = (t : Test) → Runs tests t → Holds a t

-- where no number is too wide, and one quadratic field holds the eigenvalues or no test asks for
-- them, a right verdict decides
abbrev pub CompletenessLaw : Type 0
CompletenessLaw =
    (a : Entries) (tests : List Test) (verdict : Verdict) → IsArray a → NoneIsWide a
    → EachIsDecidable a tests → VerdictHolds a tests verdict → IsDecided a tests verdict

-- the verdict is that this number is too wide, and nothing else
abbrev pub IsOpenAt : Node → Verdict → Type 0
IsOpenAt node (Infeasible found) = ⊥
IsOpenAt node (Undecided found) = (t : Test) × IsWideEntry t node found.pending
IsOpenAt node (RefusedSpectrum found) = ⊥
IsOpenAt node (Survivor found) = ⊥

-- where no test on the entries fails and the first number k, n or p that fails is too wide, a right
-- verdict says so
abbrev pub WideLaw : Type 0
WideLaw =
    (a : Entries) (tests : List Test) (verdict : Verdict) (node : Node) → IsArray a
    → ((claim : Claim) → IsBasic claim → Fails a claim → ⊥) → IsFirstWide a node
    → VerdictHolds a tests verdict → IsOpenAt node verdict

-- no claim of a test that runs fails
abbrev pub NoneFails : Entries → List Test → Type 0
NoneFails a tests = (claim : Claim) → Runs tests (test_of claim) → Fails a claim → ⊥

-- the verdict is that the test can't be decided for this cause
abbrev pub IsOpenFor : Test → Cause → Verdict → Type 0
IsOpenFor t cause (Infeasible found) = ⊥
IsOpenFor t cause (Undecided found) = Contains found.pending (record { test = t; cause = cause })
IsOpenFor t cause (RefusedSpectrum found) = ⊥
IsOpenFor t cause (Survivor found) = ⊥

-- where no test fails and no number k, n or p is too wide, but one on the way to the frame is, each
-- test that asks for the frame has this cause in a right verdict, which is undecided
abbrev pub WideFrameLaw : Type 0
WideFrameLaw =
    (a : Entries) (tests : List Test) (t : Test) (node : Node) (verdict : Verdict) → IsArray a
    → NoneIsWide a → NoneFails a tests → Runs tests t → IsSpectral t → IsFirstTooWide a node
    → VerdictHolds a tests verdict → IsOpenFor t (Wide node) verdict

-- the verdict is that no one quadratic field holds the eigenvalues, with this certificate
abbrev pub IsRefusedBy : OtherSpectrum → Verdict → Type 0
IsRefusedBy other (Infeasible found) = ⊥
IsRefusedBy other (Undecided found) = ⊥
IsRefusedBy other (RefusedSpectrum found) = found.other ≡ other
IsRefusedBy other (Survivor found) = ⊥

-- where no test fails, no number is too wide, a test asks for the frame and no one quadratic field
-- holds the eigenvalues, a right verdict says so
abbrev pub RefusedLaw : Type 0
RefusedLaw =
    (a : Entries) (tests : List Test) (t : Test) (other : OtherSpectrum) (verdict : Verdict)
    → IsArray a → NoneIsWide a → NoneFails a tests → Runs tests t → IsSpectral t
    → HasOtherSpectrum a other → VerdictHolds a tests verdict → IsRefusedBy other verdict

-- What two verdicts on an array share that are right for the same tests: the whole text of their
-- reports, as nothing in it is free.
abbrev pub HaveOneReport : Entries → Verdict → Verdict → Type 0
HaveOneReport a verdict other = report_text a verdict ≡ report_text a other

-- an array has, for each list of tests, one report that is right, up to what is free in it
abbrev pub OneReportLaw : Type 0
OneReportLaw =
    (a : Entries) (tests : List Test) (verdict other : Verdict) → IsArray a
    → VerdictHolds a tests verdict → VerdictHolds a tests other → HaveOneReport a verdict other
