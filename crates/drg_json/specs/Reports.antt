-- JSON reports: one object for each verdict, its keys ascending, in the compact text of `serde_json`.
use Rattle.std.specs.Prelude.{ℕ, suc, List, [], ◌∷◌, ◌++◌, Option, Some, map, option_map, option_and_then, codes, decimal}
use Rattle.serde_json.specs.Data.{Data, member, no_members, object, string}
use Rattle.serde_json.specs.Written.{compact_text}
use Rattle.drg_array.specs.Claims.{claim_text, class_name, test_name}
use Rattle.drg_array.specs.Entries.{Entries}
use Rattle.drg_array.specs.declared.test.Test.{Test}
use Rattle.drg_derivation.specs.Content.{Content}
use Rattle.drg_derivation.specs.Text.{lines_of}
use Rattle.drg_derivation.specs.Words.{written, written_text}
use Rattle.drg_eigen.specs.declared.split.OtherSpectrum.{OtherSpectrum}
use Rattle.drg_intersection.specs.Numbers.{Numbers, k_at, n_of}
use Rattle.drg_report.specs.Words.{pending_text}
use Rattle.drg_report.specs.declared.verdict.Infeasible.{Infeasible as TheInfeasible}
use Rattle.drg_report.specs.declared.verdict.Pending.{Pending}
use Rattle.drg_report.specs.declared.verdict.Survivor.{Survivor as TheSurvivor}
use Rattle.drg_report.specs.declared.verdict.Verdict.{Verdict}
use Rattle.drg_report.specs.declared.verdict.Verdict.TheVariants.{Infeasible, Undecided, RefusedSpectrum, Survivor}
use Rattle.drg_json.specs.Certificates.{factors_data, first_data, rest_data, second_data}
use Rattle.drg_json.specs.Pieces.{first_items, indices, list, member_if, texts}
use Rattle.drg_json.specs.Tables.{TableData, spectra_data}

-- the entries of an array, as JSON numbers
abbrev pub array_data : Entries → Data
array_data a = object (member (codes "b") (indices a.b) (member (codes "c") (indices a.c) no_members))

-- the names of the tests
abbrev pub names_data : List Test → Data
names_data tests = texts (map test_name tests)

-- a text for each test that isn't decided
abbrev pub pending_data : List Pending → Data
pending_data pending = texts (map pending_text pending)

-- the lines of a derivation, without their line ends
abbrev pub derivation_lines : Content → List (List ℕ)
derivation_lines δ = map (λ line. written_text (written line)) (lines_of δ)

-- the number of vertices, as a text
abbrev pub vertices_data : Numbers → Data
vertices_data numbers = string (decimal (n_of numbers))

-- the first m sizes k_0, k_1, .., each as a text
abbrev pub size_items : Numbers → ℕ → List Data
size_items numbers m = first_items (λ i. string (decimal (k_at numbers i))) m

-- the sizes k_0 to k_d
abbrev pub sizes_data : Numbers → Data
sizes_data numbers = list (size_items numbers (suc numbers.d))

-- the indices of each ordering, as JSON numbers
abbrev pub orderings_data : List (List ℕ) → Data
orderings_data orders = list (map indices orders)

-- the report on an array that fails a claim
abbrev pub infeasible_data : Entries → TheInfeasible → Data
infeasible_data a found = object
    (member (codes "array") (array_data a)
    (member (codes "claim") (string (claim_text found.claim))
    (member (codes "class") (string (class_name found.class))
    (member (codes "derivation") (texts (derivation_lines found.derivation))
    (member_if (codes "factors") (factors_data found.other)
    (member_if (codes "first") (first_data found.other)
    (member (codes "pending") (pending_data found.pending)
    (member_if (codes "rest") (rest_data found.other)
    (member_if (codes "second") (second_data found.other)
    (member (codes "verdict") (string (codes "infeasible")) no_members))))))))))

-- the report on an array with tests that aren't decided, under the word of its verdict
abbrev pub open_data : List ℕ → Entries → List Test → List Pending → Option OtherSpectrum → Data
open_data word a passed pending other = object
    (member (codes "array") (array_data a)
    (member_if (codes "factors") (factors_data other)
    (member_if (codes "first") (first_data other)
    (member (codes "passed") (names_data passed)
    (member (codes "pending") (pending_data pending)
    (member_if (codes "rest") (rest_data other)
    (member_if (codes "second") (second_data other)
    (member (codes "verdict") (string word) no_members))))))))

-- the report on a survivor
abbrev pub survivor_data : Entries → TheSurvivor → Data
survivor_data a found =
    let tables = spectra_data found.spectra in
    object
    (member (codes "array") (array_data a)
    (member_if (codes "dual") (option_map (λ (t : TableData). t.dual) tables)
    (member_if (codes "eigen") (option_map (λ (t : TableData). t.eigen) tables)
    (member_if (codes "krein") (option_and_then (λ (t : TableData). t.krein) tables)
    (member (codes "n") (vertices_data found.numbers)
    (member (codes "passed") (names_data found.passed)
    (member (codes "ppoly") (orderings_data found.p_orderings)
    (member_if (codes "qpoly") (option_map orderings_data found.q_orderings)
    (member_if (codes "root") (option_map (λ (t : TableData). t.root) tables)
    (member (codes "sizes") (sizes_data found.numbers)
    (member_if (codes "theta") (option_map (λ (t : TableData). t.theta) tables)
    (member (codes "verdict") (string (codes "survivor")) no_members))))))))))))

-- the report on an array with a verdict
abbrev pub verdict_data : Entries → Verdict → Data
verdict_data a (Infeasible found) = infeasible_data a found
verdict_data a (Undecided found) =
    open_data (codes "undecided") a found.passed found.pending found.other
verdict_data a (RefusedSpectrum found) =
    open_data (codes "refused-spectrum") a found.passed found.pending (Some found.other)
verdict_data a (Survivor found) = survivor_data a found

-- its text, and one line feed
abbrev pub json_text : Entries → Verdict → List ℕ
json_text a verdict = compact_text (verdict_data a verdict) ++ 10 ∷ []
