-- Laws of samples.
use Rattle.std.specs.Prelude.{◌≡◌, ℕ, ◌+◌, List, length}
use Rattle.drg_array.specs.Entries.{IsArray}
use Rattle.drg_array.specs.declared.test.TheConstants.Test.{ALL}
use Rattle.drg_sample.specs.Generated.{drawn_array, generated}
use Rattle.drg_sample.specs.Summary.{count_of, infeasible_count, line_of}
use Rattle.drg_sample.specs.declared.summary.Found.{Found}
use Rattle.drg_sample.specs.declared.summary.Found.TheVariants.{RefusedSpectrum, Survivor, Undecided}

-- What is drawn from any state is an array.
abbrev pub DrawnIsArray : Type 0
DrawnIsArray = (state : ℕ) → IsArray (drawn_array state)

-- As many arrays are generated as are asked for.
abbrev pub AsManyGenerated : Type 0
AsManyGenerated = (seed count : ℕ) → length (generated seed count) ≡ count

-- Each kind has a line of its own. So the number of a line counts the arrays of one kind.
abbrev pub OneKind : Type 0
OneKind = (found other : Found) → line_of found ≡ line_of other → found ≡ other

-- The numbers of a summary, after its first line, add up to the number of arrays.
abbrev pub CountsAddUp : Type 0
CountsAddUp = (all : List Found)
    → count_of Survivor all + count_of RefusedSpectrum all + count_of Undecided all + infeasible_count all ALL ≡ length all
