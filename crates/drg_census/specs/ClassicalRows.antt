-- The rows of the classical parameters of an array.
use Rattle.std.specs.Prelude.{◌≡◌, ◌≤◌, ℕ, ℤ, ◌<ℤ◌, ◌↔◌, ◌⊎◌, ⊤, List, [], ◌∷◌, Contains}
use Rattle.drg_array.specs.Entries.{Entries, IsArray, diameter}
use Rattle.drg_algebra.specs.Rational.{ℚ, whole}
use Rattle.drg_fraction.specs.Fraction.{rational_of}
use Rattle.drg_census.specs.Classical.{AreClassicalParameters, IsTried}
use Rattle.drg_census.specs.ClassicalWork.{AllPass, IsWide, steps, alpha_of, beta_of}
use Rattle.drg_census.specs.declared.bases.ClassicalRow.{ClassicalRow}
use Rattle.drg_census.specs.declared.bases.ClassicalRow.TheVariants.{Holds, Wide}

-- A row is there for a base that is tried: with its parameters, where the array has them and all work numbers fit; and as
-- one that is too wide, where a work number is out of range before a comparison fails.
abbrev pub IsRow : Entries → ClassicalRow → Type 0
IsRow a (Holds b alpha beta) = IsTried a b × AreClassicalParameters a b (rational_of alpha) (rational_of beta) × AllPass (steps a b)
IsRow a (Wide b) = IsTried a b × IsWide (steps a b)

abbrev pub base_of : ClassicalRow → ℤ
base_of (Holds b alpha beta) = b
base_of (Wide b) = b

-- The base is below that of each of the rows.
abbrev pub IsBelowAll : ℤ → List ClassicalRow → Type 0
IsBelowAll b [] = ⊤
IsBelowAll b (row ∷ rows) = (b <ℤ base_of row) × IsBelowAll b rows

abbrev pub DoAscend : List ClassicalRow → Type 0
DoAscend [] = ⊤
DoAscend (row ∷ rows) = IsBelowAll (base_of row) rows × DoAscend rows

-- The rows are exactly all of the array, ascending by their bases.
pub record AreClassicalRows (a : Entries) (rows : List ClassicalRow) : Type 0 where
  pub exactly : (row : ClassicalRow) → Contains rows row ↔ IsRow a row
  pub ascending : DoAscend rows

-- For a base that is tried an array has one pair of parameters at most.
abbrev pub OnePair : Type 0
OnePair = (a : Entries) (b : ℤ) (alpha beta : ℚ) → IsArray a → IsTried a b → AreClassicalParameters a b alpha beta → 2 ≤ diameter a
    → (alpha ≡ alpha_of a (whole b)) × (beta ≡ beta_of a (whole b))

-- Parameters that an array has stand in a row, or its row is too wide.
abbrev pub NoneIsMissed : Type 0
NoneIsMissed = (a : Entries) (b : ℤ) (alpha beta : ℚ) → IsArray a → IsTried a b → AreClassicalParameters a b alpha beta → 2 ≤ diameter a
    → AllPass (steps a b) ⊎ IsWide (steps a b)
