-- The texts of reports.
use Rattle.std.specs.Prelude.{ℕ, suc, List, ◌++◌, codes, decimal}
use Rattle.std.specs.List.{flat_map}
use Rattle.drg_array.specs.Entries.{Entries}
use Rattle.drg_array.specs.Text.{array_text}
use Rattle.drg_array.specs.Claims.{test_name}
use Rattle.drg_array.specs.declared.test.Test.{Test}
use Rattle.drg_derivation.specs.Text.{derivation_text}
use Rattle.drg_intersection.specs.Numbers.{Numbers, k_at, n_of}
use Rattle.drg_report.specs.Certificates.{certificate_lines, other_lines}
use Rattle.drg_report.specs.OrderingTexts.{p_lines, q_lines}
use Rattle.drg_report.specs.Pieces.{pieces, spaced}
use Rattle.drg_report.specs.SpectralTexts.{spectra_lines}
use Rattle.drg_report.specs.Words.{pending_text, verdict_words}
use Rattle.drg_report.specs.declared.verdict.Pending.{Pending}
use Rattle.drg_report.specs.declared.verdict.Verdict.{Verdict}
use Rattle.drg_report.specs.declared.verdict.Verdict.TheVariants.{Infeasible, Undecided, RefusedSpectrum, Survivor}

-- what the verdict says in a few words
abbrev pub verdict_line : Verdict → List ℕ
verdict_line verdict = codes "verdict " ++ verdict_words verdict ++ codes "\n"

-- the names, with one space before each
abbrev pub names_text : List Test → List ℕ
names_text tests = flat_map (λ t. spaced (test_name t)) tests

-- the array, and the tests that ran and hold
abbrev pub array_lines : Entries → List Test → List ℕ
array_lines a passed =
    codes "array " ++ array_text a ++ codes "\npassed" ++ names_text passed ++ codes "\n"

-- a line for a test that isn't decided
abbrev pub pending_line : Pending → List ℕ
pending_line entry = codes "pending " ++ pending_text entry ++ codes "\n"

-- a line for each entry, in their order
abbrev pub pending_lines : List Pending → List ℕ
pending_lines pending = flat_map pending_line pending

-- the first m sizes k_0, k_1, .., with one space before each
abbrev pub sizes_text : Numbers → ℕ → List ℕ
sizes_text numbers m = pieces (λ i. spaced (decimal (k_at numbers i))) m

-- the number of vertices, and the sizes k_0 to k_d
abbrev pub numbers_lines : Numbers → List ℕ
numbers_lines numbers =
    codes "n " ++ decimal (n_of numbers) ++ codes "\nsizes" ++ sizes_text numbers (suc numbers.d)
    ++ codes "\n"

-- The one text of a report. An infeasible array has its derivation first, so that a reader of
-- derivations can read the report, and then the claim and its class. The others have the array and
-- the tests that ran and hold. The certificate, the tables and the Q-polynomial orderings stand where
-- the verdict has them.
abbrev pub report_text : Entries → Verdict → List ℕ
report_text a (Infeasible found) =
    derivation_text found.derivation ++ verdict_line (Infeasible found)
    ++ pending_lines found.pending ++ other_lines found.other
report_text a (Undecided found) =
    verdict_line (Undecided found) ++ array_lines a found.passed ++ pending_lines found.pending
    ++ other_lines found.other
report_text a (RefusedSpectrum found) =
    verdict_line (RefusedSpectrum found) ++ array_lines a found.passed
    ++ pending_lines found.pending ++ certificate_lines found.other
report_text a (Survivor found) =
    verdict_line (Survivor found) ++ array_lines a found.passed ++ numbers_lines found.numbers
    ++ spectra_lines found.spectra ++ p_lines found.p_orderings ++ q_lines found.q_orderings
