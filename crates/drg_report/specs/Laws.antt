-- A text is the report of verdicts of one kind only.
use Rattle.std.specs.Prelude.{◌≡◌}
use Rattle.drg_array.specs.Entries.{Entries}
use Rattle.drg_report.specs.Texts.{report_text}
use Rattle.drg_report.specs.declared.verdict.Verdict.{Verdict}
use Rattle.drg_report.specs.declared.verdict.Verdict.TheVariants.{Infeasible, Undecided, RefusedSpectrum, Survivor}

-- both are infeasible, both undecided, both refused, or both survivors
abbrev pub HaveOneKind : Verdict → Verdict → Type 0
HaveOneKind (Infeasible found) (Infeasible other) = Unit {0}
HaveOneKind (Undecided found) (Undecided other) = Unit {0}
HaveOneKind (RefusedSpectrum found) (RefusedSpectrum other) = Unit {0}
HaveOneKind (Survivor found) (Survivor other) = Unit {0}
HaveOneKind verdict other = ⊥

-- reports with the same text have verdicts of one kind
abbrev pub TextTellsKind : Type 0
TextTellsKind =
    (a b : Entries) (verdict other : Verdict) → report_text a verdict ≡ report_text b other
    → HaveOneKind verdict other
