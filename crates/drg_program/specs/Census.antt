-- What `census` finds, and what it writes.
use Rattle.std.specs.Prelude.{◌≡◌, ℕ, List, ◌++◌, codes}
use Rattle.std.specs.List.{flat_map}
use Rattle.drg_array.specs.Entries.{Entries}
use Rattle.drg_array.specs.Text.{array_text}
use Rattle.drg_census.specs.Census.{IsCensus}
use Rattle.drg_program.specs.declared.status.Status.{Status}
use Rattle.drg_program.specs.declared.status.Status.TheVariants.{Done}

-- Each array is written in a line of its own.
abbrev pub census_text : List Entries → List ℕ
census_text arrays = flat_map (λ a. array_text a ++ codes "\n") arrays

-- The arrays of the census are written, and there is no other list of them.
pub record AnswersCensus (d k n : ℕ) (status : Status) (text : List ℕ) : Type 0 where
  pub arrays : List Entries
  pub census : IsCensus d k n arrays
  pub only : (others : List Entries) → IsCensus d k n others → others ≡ arrays
  pub told : status ≡ Done
  pub written : text ≡ census_text arrays
