-- What `check` finds in an array.
use Rattle.std.specs.Prelude.{◌≡◌, ℕ, Bool, true, false, List, if◌then◌else◌, ◌==◌, ◌&&◌, ◌-◌, ⊤, nat_lt, length, take, slice_index}
use Rattle.drg_array.specs.Entries.{Entries}
use Rattle.drg_array.specs.Text.{IsArrayText}
use Rattle.drg_array.specs.Faults.{IsFault}
use Rattle.drg_array.specs.declared.fault.ArrayKind.{ArrayKind}
use Rattle.drg_array.specs.declared.test.Test.{Test}
use Rattle.drg_derivation.specs.Text.{IsDerivationText, derivation_text}
use Rattle.drg_json.specs.Reports.{json_text}
use Rattle.drg_report.specs.Texts.{report_text}
use Rattle.drg_report.specs.declared.verdict.Verdict.{Verdict}
use Rattle.drg_report.specs.declared.verdict.Verdict.TheVariants as verdict
use Rattle.drg_engine.specs.Laws.{EachIsDecidable, IsDecided, NoneIsWide}
use Rattle.drg_engine.specs.Verdicts.{VerdictHolds}
use Rattle.drg_program.specs.declared.status.Status.{Status}
use Rattle.drg_program.specs.declared.status.Status.TheVariants.{Survivor, Infeasible, RefusedSpectrum, Undecided}

-- less one LF or CR LF at the end
abbrev pub without_line_end : List ℕ → List ℕ
without_line_end bytes =
    let n = length bytes in
    if nat_lt 0 n && slice_index bytes (n - 1) == 10
    then if nat_lt 1 n && slice_index bytes (n - 2) == 13 then take (n - 2) bytes else take (n - 1) bytes
    else bytes

-- the input is the text of this array, and at most a line end
abbrev pub IsArrayOf : List ℕ → Entries → Type 0
IsArrayOf bytes a = IsArrayText (without_line_end bytes) a

abbrev pub HasNoArray : List ℕ → Type 0
HasNoArray bytes = (a : Entries) → IsArrayOf bytes a → ⊥

-- the input is the text of no array, and the first fault is in this place
abbrev pub IsFaultAt : List ℕ → ℕ → Type 0
IsFaultAt bytes at = HasNoArray bytes × (kind : ArrayKind) × IsFault (without_line_end bytes) (record { at = at; kind = kind })

-- the derivation of an infeasible array is written as a text that `replay` reads as this derivation
abbrev pub IsReadable : Verdict → Type 0
IsReadable (verdict.Infeasible found) = IsDerivationText (derivation_text found.derivation) found.derivation
IsReadable (verdict.Undecided found) = ⊤
IsReadable (verdict.RefusedSpectrum found) = ⊤
IsReadable (verdict.Survivor found) = ⊤

-- A right verdict on the array, where these tests are selected. What a right verdict says stands in specs/Verdicts.antt of
-- drg_engine. Of an infeasible array it says that the array fails the claim and no claim before it, that its derivation is
-- accepted with the class that is written, and, where this is the class of counting, that no graph has the array. Of a survivor
-- it says that each test that runs holds, that these are its numbers and exactly its P-polynomial orderings, and that its frame
-- is there where a test asks for it. Of an undecided one it says which numbers are too wide, and that each test that can be
-- decided holds. Of a refused one it says that no one quadratic field holds its eigenvalues. Where no number is too wide and
-- one quadratic field holds the eigenvalues, if a test asks for them, the array is infeasible exactly where a test that runs
-- doesn't hold, and else a survivor.
pub record IsJudged (a : Entries) (tests : List Test) (verdict : Verdict) : Type 0 where
  pub holds : VerdictHolds a tests verdict
  pub readable : IsReadable verdict
  pub decided : NoneIsWide a → EachIsDecidable a tests → IsDecided a tests verdict

-- the status with which a verdict is told
abbrev pub status_of : Verdict → Status
status_of (verdict.Infeasible found) = Infeasible
status_of (verdict.Undecided found) = Undecided
status_of (verdict.RefusedSpectrum found) = RefusedSpectrum
status_of (verdict.Survivor found) = Survivor

-- the report on the array with this verdict, as JSON or as lines of text
abbrev pub report_of : Bool → Entries → Verdict → List ℕ
report_of true a verdict = json_text a verdict
report_of false a verdict = report_text a verdict

-- The bytes are the text of an array. It is judged, and this is the status of the verdict and its report, as JSON or as text.
pub record Checks (bytes : List ℕ) (tests : List Test) (json : Bool) (status : Status) (text : List ℕ) : Type 0 where
  pub array : Entries
  pub read : IsArrayOf bytes array
  pub verdict : Verdict
  pub judged : IsJudged array tests verdict
  pub told : status ≡ status_of verdict
  pub written : text ≡ report_of json array verdict
