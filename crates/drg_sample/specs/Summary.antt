-- What is told of a sample: how many of its arrays have which verdict.
use Rattle.std.specs.Prelude.{◌≡◌, ℕ, ◌+◌, Bool, List, [], ◌∷◌, ◌++◌, length, codes, decimal, if◌then◌else◌, nat_eq}
use Rattle.std.specs.List.{flat_map}
use Rattle.drg_array.specs.ClaimOrder.{test_number}
use Rattle.drg_array.specs.Claims.{test_name}
use Rattle.drg_array.specs.declared.test.Test.{Test}
use Rattle.drg_array.specs.declared.test.TheConstants.Test.{ALL}
use Rattle.drg_sample.specs.declared.summary.Found.{Found}
use Rattle.drg_sample.specs.declared.summary.Found.TheVariants.{Infeasible, RefusedSpectrum, Survivor, Undecided}

-- The line of a summary that counts it, after the first line.
abbrev pub line_of : Found → ℕ
line_of Survivor = 1
line_of RefusedSpectrum = 2
line_of Undecided = 3
line_of (Infeasible test) = 3 + test_number test

-- Whether both are counted on one line.
abbrev pub is_same : Found → Found → Bool
is_same found other = nat_eq (line_of found) (line_of other)

-- How often it stands in a list.
abbrev pub count_of : Found → List Found → ℕ
count_of found [] = 0
count_of found (other ∷ rest) = (if is_same found other then 1 else 0) + count_of found rest

-- A line of some words and a number.
abbrev pub number_line : List ℕ → ℕ → List ℕ
number_line words number = words ++ codes " " ++ decimal number ++ codes "\n"

-- How many arrays fail a test first.
abbrev pub test_line : List Found → Test → List ℕ
test_line all test = number_line (codes "infeasible " ++ test_name test) (count_of (Infeasible test) all)

-- How many arrays fail one of these tests first.
abbrev pub infeasible_count : List Found → List Test → ℕ
infeasible_count all [] = 0
infeasible_count all (test ∷ tests) = count_of (Infeasible test) all + infeasible_count all tests

-- The summary of a sample: its seed and its count, and how many of its arrays were found to be what, the infeasible ones
-- by the test that they fail first, in the order of the tests.
abbrev pub summary_text : ℕ → List Found → List ℕ
summary_text seed all =
    number_line (codes "sample " ++ decimal seed) (length all)
    ++ number_line (codes "survivor") (count_of Survivor all)
    ++ number_line (codes "refused-spectrum") (count_of RefusedSpectrum all)
    ++ number_line (codes "undecided") (count_of Undecided all)
    ++ flat_map (test_line all) ALL
