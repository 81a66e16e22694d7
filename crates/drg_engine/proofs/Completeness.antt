-- What a right verdict decides, where no number k, n or p is too wide.
use Rattle.std.proofs.Common.{◌≡◌, List, ◌∷◌, refl, sym, ap, subst, arith, inl, inr}
use Rattle.std.specs.Prelude.{◌⊎◌, Contains}
use Rattle.drg_array.specs.Entries.{Entries, IsArray}
use Rattle.drg_array.specs.Claims.{test_of}
use Rattle.drg_array.specs.declared.node.Node.{Node}
use Rattle.drg_array.specs.declared.test.Test.{Test}
use Rattle.drg_array.specs.declared.test.Test.TheVariants as test
use Rattle.drg_eigen.specs.declared.split.OtherSpectrum.{OtherSpectrum}
use Rattle.drg_report.specs.declared.verdict.Cause.{Cause}
use Rattle.drg_report.specs.declared.verdict.Cause.TheVariants.{Wide, Spectrum}
use Rattle.drg_report.specs.declared.verdict.Pending.{Pending}
use Rattle.drg_report.specs.declared.verdict.Verdict.{Verdict}
use Rattle.drg_report.specs.declared.verdict.Verdict.TheVariants as verdict
use Rattle.drg_engine.specs.Causes.{IsCause, IsDecidable, IsFrameCause, IsSpectral}
use Rattle.drg_engine.specs.Conditions.{IsBuilt}
use Rattle.drg_engine.specs.Found.{IsPassed, IsWide}
use Rattle.drg_engine.specs.Frames.{HasOtherSpectrum, IsFirstTooWide}
use Rattle.drg_engine.specs.Laws.{EachIsDecidable, FailingTestsDontHold, IsDecided, IsOpenFor, IsRefusedBy, NoneFails, NoneIsWide}
use Rattle.drg_engine.specs.Selections.{Runs}
use Rattle.drg_engine.specs.Verdicts.{AreAllFound, VerdictHolds}
use Rattle.drg_engine.specs.FrameLaws.{FrameLaws}
use Rattle.drg_engine.proofs.BuiltTests.{is_mult}
use Rattle.drg_engine.proofs.FoundTests.{entry_of, passed_or_not}
use Rattle.drg_engine.proofs.FrameCauses.{no_cause, not_both, one_cause, one_other}

module _ (laws : FrameLaws) (a : Entries) (tests : List Test) where
  -- an entry is of a test that runs, with its cause
  entry_runs : (passed : List Test) (pending : List Pending) (x : Pending) → AreAllFound a tests passed pending → Contains pending x
      → Runs tests x.test × IsCause a x.test x.cause
  entry_runs passed pending x all there =
      let (at, is) = entry_of a all.ran passed pending x all.found there in
      ((all.all_ran.members x.test).0 at, is)

  none_pending : EachIsDecidable a tests → (passed : List Test) (pending : List Pending) (x : Pending) → AreAllFound a tests passed pending → Contains pending x → ⊥
  none_pending each passed pending x all there =
      let (runs, is) = entry_runs passed pending x all there in
      no_cause laws a x.test x.cause is (each x.test runs)

  pub decided : FailingTestsDontHold → IsArray a → NoneIsWide a → EachIsDecidable a tests → (v : Verdict) → VerdictHolds a tests v → IsDecided a tests v
  decided false array none each (verdict.Infeasible found) right = (right.claimed.runs, false a found.claim array right.claimed.runs.0 right.claimed.fails)
  decided false array none each (verdict.Undecided found) (inl right) = none right.node right.wide
  decided false array none each (verdict.Undecided found) (inr right) =
      none_pending each found.passed found.pending right.some.0 right.found_all right.some.1
  decided false array none each (verdict.RefusedSpectrum found) right =
      none_pending each found.passed found.pending right.spectrum.some.0 right.found_all right.spectrum.some.1
  decided false array none each (verdict.Survivor found) right = λ t runs. (right.held t ((right.all_passed.members t).1 runs)).holds

  -- ---- a test that asks for the frame
  -- the cause of its frame is its own
  frame_cause : (t : Test) (c : Cause) → IsBuilt t → IsSpectral t → IsFrameCause a c → IsCause a t c
  frame_cause t c built asks is = subst (λ u. IsCause a u c) (sym (is_mult t built asks)) is

  -- each cause is one of a frame
  of_frame : (t : Test) (c : Cause) → IsCause a t c → IsFrameCause a c
  of_frame test.Mult c is = is
  of_frame t c is = absurd is

  module _ (none : NoneIsWide a) (unfailed : NoneFails a tests) (t : Test) (runs : Runs tests t) (asks : IsSpectral t) where
    -- the test has the entry with its cause
    has_entry : (c : Cause) → IsFrameCause a c → (passed : List Test) (pending : List Pending) → AreAllFound a tests passed pending
        → Contains pending (record { test = t; cause = c })
    has_entry c is passed pending all =
        elim (passed_or_not a all.ran passed pending t all.found ((all.all_ran.members t).1 runs)) [
          | inl pass ↦ absurd (no_cause laws a t c (frame_cause t c runs.0 asks is) pass.decidable)
          | inr (d, also, there) ↦ subst (λ (x : Cause). Contains pending (record { test = t; cause = x }))
              (one_cause laws a t d c also (frame_cause t c runs.0 asks is)) there
        ]

    pub stays_wide : (node : Node) → IsFirstTooWide a node → (v : Verdict) → VerdictHolds a tests v → IsOpenFor t (Wide node) v
    stays_wide node wide (verdict.Infeasible found) right = unfailed found.claim right.claimed.runs right.claimed.fails
    stays_wide node wide (verdict.Undecided found) (inl right) = absurd (none right.node right.wide)
    stays_wide node wide (verdict.Undecided found) (inr right) = has_entry (Wide node) wide found.passed found.pending right.found_all
    stays_wide node wide (verdict.RefusedSpectrum found) right = not_both laws a node found.other wide right.certificate
    stays_wide node wide (verdict.Survivor found) right =
        no_cause laws a t (Wide node) (frame_cause t (Wide node) runs.0 asks wide) (right.held t ((right.all_passed.members t).1 runs)).decidable

    pub stays_refused : (other : OtherSpectrum) → HasOtherSpectrum a other → (v : Verdict) → VerdictHolds a tests v → IsRefusedBy other v
    stays_refused other has (verdict.Infeasible found) right = unfailed found.claim right.claimed.runs right.claimed.fails
    stays_refused other has (verdict.Undecided found) (inl right) = none right.node right.wide
    stays_refused other has (verdict.Undecided found) (inr right) =
        let (x, there, wide) = right.some in
        let (also, is) = entry_runs found.passed found.pending x right.found_all there in
        not_wide x.cause wide (of_frame x.test x.cause is)
      where
        not_wide : (c : Cause) → IsWide c → IsFrameCause a c → ⊥
        not_wide (Wide node) wide is = not_both laws a node other is has
        not_wide Spectrum wide is = absurd wide
    stays_refused other has (verdict.RefusedSpectrum found) right = one_other laws a found.other other right.certificate has
    stays_refused other has (verdict.Survivor found) right =
        no_cause laws a t Spectrum (frame_cause t Spectrum runs.0 asks (other, has)) (right.held t ((right.all_passed.members t).1 runs)).decidable
