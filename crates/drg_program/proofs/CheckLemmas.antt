-- A right verdict can be read again, and says what is decided.
use Rattle.std.proofs.Common.{List, Result, Ok, Err, refl}
use Rattle.std.specs.Prelude.{IfOk}
use Rattle.drg_array.specs.Entries.{Entries, IsArray}
use Rattle.drg_array.specs.declared.test.Test.{Test}
use Rattle.drg_derivation.specs.Laws.{OneText}
use Rattle.drg_derivation.specs.Text.{derivation_text}
use Rattle.drg_report.specs.declared.verdict.Verdict.{Verdict}
use Rattle.drg_report.specs.declared.verdict.Verdict.TheVariants as verdict
use Rattle.drg_engine.specs.Laws.{CompletenessLaw, TextLaw}
use Rattle.drg_engine.specs.Verdicts.{VerdictHolds}
use Rattle.drg_engine.proofs.Decisions.{shown}
use Rattle.drg_program.specs.Check.{IsJudged, IsReadable}

readable : (a : Entries) (tests : List Test) (v : Verdict) → TextLaw → OneText → IsArray a → VerdictHolds a tests v → IsReadable v
readable a tests (verdict.Infeasible found) law one array h =
    (one (derivation_text found.derivation) found.derivation).1 (law found.derivation (shown a tests found array h), refl)
readable a tests (verdict.Undecided found) law one array h = tt
readable a tests (verdict.RefusedSpectrum found) law one array h = tt
readable a tests (verdict.Survivor found) law one array h = tt

-- what is right is judged
pub judged : {E : Type 0} (a : Entries) (tests : List Test) (result : Result Verdict E) → CompletenessLaw → TextLaw → OneText → IsArray a
    → IfOk result (VerdictHolds a tests) → IfOk result (IsJudged a tests)
judged a tests (Ok v) complete law one array h = record {
  holds = h;
  readable = readable a tests v law one array h;
  decided = λ none each. complete a tests v array none each h;
}
judged a tests (Err e) complete law one array h = tt
