-- Which arrays of a list are distinct, and where each array of the list stands among them.
use Rattle.std.specs.Prelude.{◌≡◌, ℕ, ◌<◌, List, length, Some, slice_get}
use Rattle.drg_array.specs.Entries.{Entries}

-- Some arrays, and for each place of a list the place among them of the array there. Places count from 0.
pub record Listing : Type 0 where
  pub arrays : List Entries
  pub places : List ℕ

-- The list has the array with this place n here, at i, for the first time, after arrays with lower places alone.
pub record IsFirstAt (places : List ℕ) (n i : ℕ) : Type 0 where
  pub here : slice_get places i ≡ Some n
  pub before : (j m : ℕ) → j < i → slice_get places j ≡ Some m → m < n

-- The arrays are exactly those of the list, each of them once, in the order in which the list has them first, and each
-- array of the list stands among them at its place.
pub record AreDistinct (list : List Entries) (found : Listing) : Type 0 where
  pub one_each : length found.places ≡ length list
  pub placed : (i n : ℕ) → slice_get found.places i ≡ Some n → slice_get found.arrays n ≡ slice_get list i
  pub once : (m n : ℕ) (a : Entries) → slice_get found.arrays m ≡ Some a → slice_get found.arrays n ≡ Some a → m ≡ n
  pub in_order : (n : ℕ) → n < length found.arrays → (i : ℕ) × IsFirstAt found.places n i

-- Values for the arrays of a list, where some values belong to the distinct arrays: each array of the list has that of the
-- distinct array which it is, and equal arrays have the same one.
pub record AreSpread {T : Type 0} (list arrays : List Entries) (values each : List T) : Type 0 where
  pub one_each : length each ≡ length list
  pub given : (i : ℕ) → i < length list → (n : ℕ) × (slice_get arrays n ≡ slice_get list i) × (slice_get each i ≡ slice_get values n)
  pub equal : (i j : ℕ) → slice_get list i ≡ slice_get list j → slice_get each i ≡ slice_get each j
