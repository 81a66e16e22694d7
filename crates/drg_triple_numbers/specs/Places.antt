-- The unknowns of a triple system by their places.
use Rattle.std.specs.Prelude.{◌≡◌, ℕ, ◌+◌, ◌*◌, ◌<◌, ◌/◌, ◌%◌, true}
use Rattle.drg_linear.specs.declared.unknown.Unknown.{Unknown}
use Rattle.drg_linear.specs.Unknowns.{is_unknown, place}

-- the unknown at a place of the order of those whose numbers are from 1 to d
unfoldable pub unknown_at : ℕ → ℕ → Unknown
unknown_at d k = record { r = k / d / d + 1; s = k / d % d + 1; t = k % d + 1 }

-- it is the unknown that has the place
pub record StandsAt (d : ℕ) (n : Unknown) (k : ℕ) : Type 0 where
  pub numbers : is_unknown d n ≡ true
  pub place_is : place d n ≡ k

-- each unknown has a place below d³
pub record UnknownsHavePlaces : Type 0 where
  pub within : (d : ℕ) (n : Unknown) → is_unknown d n ≡ true → place d n < d * d * d
  pub back : (d : ℕ) (n : Unknown) → is_unknown d n ≡ true → unknown_at d (place d n) ≡ n

-- and each such place is that of an unknown
abbrev pub PlacesHaveUnknowns : Type 0
PlacesHaveUnknowns = (d k : ℕ) → k < d * d * d → StandsAt d (unknown_at d k) k
