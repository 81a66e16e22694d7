-- Numbers for the unknowns, in their order.
use Rattle.std.specs.Prelude.{◌≡◌, ◌<◌, ◌^◌, ◌*◌, ℕ, ℤ, pos, ◌*ℤ◌, Bool, List, length, map, slice_index_or}
use Rattle.drg_whole.specs.Sums.{sum_fits_from}
use Rattle.drg_linear.specs.Unknowns.{place}
use Rattle.drg_linear.specs.Equations.{Term, value_from}

pub record AssignmentContent : Type 0 where
  -- the numbers of the unknowns are from 1 to d
  pub d : ℕ
  pub values : List ℤ

-- one number for each unknown
pub record IsAssignment (a : AssignmentContent) : Type 0 where
  pub d : a.d < 2 ^ 8
  pub each : length a.values ≡ a.d * a.d * a.d

-- the number at a place, and 0 outside
abbrev pub number_at : List ℤ → ℕ → ℤ
number_at values k = slice_index_or values k (pos 0)

-- what a term comes to at these numbers
abbrev pub term_value : ℕ → List ℤ → Term → ℤ
term_value d values t = t.1 *ℤ number_at values (place d t.0)

-- the terms at these numbers
abbrev pub value_at : ℕ → List ℤ → List Term → ℤ
value_at d values terms = value_from d (number_at values) (pos 0) terms

-- each product and each sum on the way is in range
abbrev pub value_fits : ℕ → List ℤ → List Term → Bool
value_fits d values terms = sum_fits_from (pos 0) (map (term_value d values) terms)
