-- What `sample` finds in the arrays that a seed generates, and what it writes.
use Rattle.std.specs.Prelude.{◌≡◌, ℕ, ◌+◌, List, slice_get}
use Rattle.std.specs.List.{AllZip}
use Rattle.drg_array.specs.Claims.{test_of}
use Rattle.drg_array.specs.Entries.{Entries}
use Rattle.drg_array.specs.declared.test.TheConstants.Test.{ALL}
use Rattle.drg_array.specs.declared.test_set.TheConstants.{BUILT}
use Rattle.drg_report.specs.declared.verdict.Verdict.{Verdict}
use Rattle.drg_report.specs.declared.verdict.Verdict.TheVariants as verdict
use Rattle.drg_sample.specs.Generated.{generated}
use Rattle.drg_sample.specs.Summary.{count_of, infeasible_count, summary_text}
use Rattle.drg_sample.specs.declared.summary.Found.{Found}
use Rattle.drg_sample.specs.declared.summary.Found.TheVariants.{Infeasible, RefusedSpectrum, Survivor, Undecided}
use Rattle.drg_program.specs.Check.{IsJudged}
use Rattle.drg_program.specs.declared.status.Status.{Status}
use Rattle.drg_program.specs.declared.status.Status.TheVariants.{Done}

-- What a summary counts a verdict as: an infeasible array by the test of its claim.
abbrev pub kind_of : Verdict → Found
kind_of (verdict.Infeasible found) = Infeasible (test_of found.claim)
kind_of (verdict.Undecided found) = Undecided
kind_of (verdict.RefusedSpectrum found) = RefusedSpectrum
kind_of (verdict.Survivor found) = Survivor

-- This is what a right verdict on the array is counted as, where all tests that are built are selected. What such a verdict
-- says is what `check` says of the array.
pub record IsKindOn (a : Entries) (kind : Found) : Type 0 where
  pub verdict : Verdict
  pub judged : IsJudged a BUILT verdict
  pub is : kind ≡ kind_of verdict

-- There is one for each array, in their order, and equal arrays have the same one.
pub record AreKindsOn (arrays : List Entries) (kinds : List Found) : Type 0 where
  pub judged : AllZip IsKindOn arrays kinds
  pub equal : (i j : ℕ) → slice_get arrays i ≡ slice_get arrays j → slice_get kinds i ≡ slice_get kinds j

-- The arrays of the seed are judged, and their summary is written. Its numbers after the first line add up to the count.
pub record AnswersSample (seed count : ℕ) (status : Status) (text : List ℕ) : Type 0 where
  pub kinds : List Found
  pub are : AreKindsOn (generated seed count) kinds
  pub sum : count_of Survivor kinds + count_of RefusedSpectrum kinds + count_of Undecided kinds + infeasible_count kinds ALL ≡ count
  pub told : status ≡ Done
  pub written : text ≡ summary_text seed kinds
