-- Monic polynomials with whole coefficients in range.
use Rattle.std.specs.Prelude.{◌≡◌, ℤ, pos, ◌-◌, List, length, Some, slice_get}
use Rattle.std.specs.List.{AllByRecursion}
use Rattle.drg_whole.specs.Range.{InRange}

-- the last coefficient is 1
abbrev pub IsMonic : List ℤ → Type 0
IsMonic f = slice_get f (length f - 1) ≡ Some (pos 1)

-- coefficients from the constant upwards: the last one is 1, and each is in range
pub record IsPoly (f : List ℤ) : Type 0 where
  pub monic : IsMonic f
  pub in_range : AllByRecursion InRange f
