-- Laws of the answer, and of what lines make known.
use Rattle.std.specs.Prelude.{◌≡◌, ◌↔◌, true, ℕ, suc, ◌+◌, ◌<◌, ℤ, pos, List, [], ◌++◌, length, slice_index_or, All, Contains, Option, Some, None, Result, Ok, Err}
use Rattle.drg_array.specs.Entries.{Entries}
use Rattle.drg_array.specs.Claims.{name_of}
use Rattle.drg_array.specs.declared.claim_name.TheConstants.{REPLAYED}
use Rattle.drg_array.specs.declared.claim.Claim.{Claim}
use Rattle.drg_array.specs.declared.claim.Class.{Class}
use Rattle.drg_derivation.specs.Content.{Content}
use Rattle.drg_derivation.specs.declared.line.Line.{Line}
use Rattle.drg_derivation.specs.declared.line.Line.TheVariants.{K, P, Krein}
use Rattle.drg_replay.specs.declared.progress.Progress.TheVariants.{AllMet}
use Rattle.drg_replay.specs.declared.answer.ReplayFault.{ReplayFault}
use Rattle.drg_replay.specs.declared.answer.ReplayFault.TheVariants.{NotMet, Open, Wide, Memory}
use Rattle.drg_replay.specs.Known.{KnownContent, FrameContent}
use Rattle.drg_replay.specs.KreinLines.{krein_stands, krein_numbers}
use Rattle.drg_replay.specs.Rows.{rows_at}
use Rattle.drg_replay.specs.Claims.{claim_is_met}
use Rattle.drg_replay.specs.Lines.{known_of, known_at_end}
use Rattle.drg_replay.specs.Answers.{AllAreMet, progress_of, answer_after, answer_of, accepted_class}

-- A claim line is met for the claims alone that a replay knows, and for each of these there are numbers
-- of an array for which it is.
pub record ReplayedLaw : Type 0 where
  pub known : (a : Entries) (claim : Claim) → claim_is_met a claim ≡ true → Contains REPLAYED (name_of claim)
  pub each :
      All
      (λ name. (a : Entries) × (claim : Claim) × (name_of claim ≡ name) × (claim_is_met a claim ≡ true))
      REPLAYED

-- the class of an accepted derivation is spectral exactly where a `frame` line stands
abbrev pub ClassLaw : Type 0
ClassLaw =
    (δ : Content) (class : Class) → answer_of δ ≡ Ok class → class ≡ accepted_class (known_at_end δ)

-- ---- What lines come to after others

-- the answer with each line number greater by n
abbrev pub moved_down : ℕ → Result Class ReplayFault → Result Class ReplayFault
moved_down n (Ok class) = Ok class
moved_down n (Err (NotMet line)) = Err (NotMet (line + n))
moved_down n (Err (Open line)) = Err (Open (line + n))
moved_down n (Err (Wide line)) = Err (Wide (line + n))
moved_down n (Err Memory) = Err Memory

-- What further lines come to depends on what is known before them and on nothing else: after other
-- lines, of another array and claim, that make the same known, the answer is the same but for the
-- numbers of the lines. All lists of lines have the newest first.
abbrev pub KnownAloneLaw : Type 0
KnownAloneLaw =
    (a b : Entries) (claim other : Claim) (lines others further : List Line) (k : KnownContent)
    → progress_of a claim lines ≡ AllMet k → progress_of b other others ≡ AllMet k
    → moved_down (length others) (answer_after a claim (further ++ lines))
    ≡ moved_down (length lines) (answer_after b other (further ++ others))

-- ---- What stands

-- among lines that are all met, the sizes that are known are those of the `k` line
abbrev pub KnownSizesLaw : Type 0
KnownSizesLaw =
    (a : Entries) (claim : Claim) (lines : List Line) (values : List ℤ) → AllAreMet a claim lines
    → ((known_of a claim lines).counts.sizes ≡ Some values) ↔ Contains lines (K values)

-- these are the numbers of row i+1
pub record IsRow (rows : List (List ℤ)) (i : ℕ) (values : List ℤ) : Type 0 where
  pub stands : i < length rows
  pub numbers : slice_index_or rows i [] ≡ values

-- and the rows of h that are known are those of its `p` lines, each at the index of its line
abbrev pub KnownRowsLaw : Type 0
KnownRowsLaw =
    (a : Entries) (claim : Claim) (lines : List Line) (h i : ℕ) (values : List ℤ)
    → AllAreMet a claim lines
    → IsRow (rows_at (known_of a claim lines).counts.rows h) i values
    ↔ Contains lines (P (pos h) (pos (suc i)) values)

-- the numbers that are known of i and j
abbrev pub StatesKrein : Option FrameContent → ℕ → ℕ → List ℤ → Type 0
StatesKrein None i j values = ⊥
StatesKrein (Some f) i j values =
    (krein_stands f.krein i j ≡ true) × (krein_numbers f.krein i j ≡ values)

-- are those of their `krein` line
abbrev pub KnownKreinLaw : Type 0
KnownKreinLaw =
    (a : Entries) (claim : Claim) (lines : List Line) (i j : ℕ) (values : List ℤ)
    → AllAreMet a claim lines
    → StatesKrein (known_of a claim lines).frame i j values
    ↔ Contains lines (Krein (pos i) (pos j) values)
