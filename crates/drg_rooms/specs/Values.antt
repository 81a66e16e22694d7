-- The values that an equation leaves to an unknown in a room, and the lines `low`, `high`, `miss`.
use Rattle.std.specs.Prelude.{ℕ, ℤ, pos, int_lt, int_le, not, if◌then◌else◌, List, [], ◌∷◌, slice_set}
use Rattle.std.specs.Ordering.{int_eq}
use Rattle.drg_linear.specs.declared.unknown.Unknown.{Unknown}
use Rattle.drg_whole.specs.Range.{in_range}
use Rattle.drg_linear.specs.Equations.{EquationContent, coefficient_of, rest_of}
use Rattle.drg_linear.specs.declared.bounds.End.{End}
use Rattle.drg_linear.specs.declared.bounds.End.TheVariants.{Least, Greatest}
use Rattle.drg_linear.specs.Rooms.{RoomBounds, bounds_at, end_sum, end_sum_fits}
use Rattle.drg_linear.specs.Values.{least_by, greatest_by, left_by, least_value, greatest_value}
use Rattle.drg_rooms.specs.Steps.{Step, Holds, Fits}

-- the sums of the rest, first the least one, and then the one difference that is used
unfoldable pub left_steps : ℕ → End → RoomBounds → Unknown → EquationContent → List Step → List Step
left_steps d side room u e steps =
    Fits (end_sum_fits d Least room (rest_of u e.terms))
    ∷ Fits (end_sum_fits d Greatest room (rest_of u e.terms))
    ∷ Fits (in_range (left_by d side room u e))
    ∷ steps

-- `low`: there is a term of the unknown, and its least value is at least v
unfoldable pub low_steps : ℕ → RoomBounds → Unknown → ℤ → EquationContent → List Step
low_steps d room u v e =
    let a = coefficient_of u e.terms in
    Holds (not (int_eq a (pos 0)))
    ∷ left_steps d (least_by a) room u e (Holds (int_le v (least_value d room u e)) ∷ [])

-- `high`: there is a term of the unknown, and its greatest value is at most v
unfoldable pub high_steps : ℕ → RoomBounds → Unknown → ℤ → EquationContent → List Step
high_steps d room u v e =
    let a = coefficient_of u e.terms in
    Holds (not (int_eq a (pos 0)))
    ∷ left_steps d (greatest_by a) room u e (Holds (int_le (greatest_value d room u e) v) ∷ [])

-- the right side is above the greatest sum
abbrev pub above_steps : ℕ → RoomBounds → EquationContent → List Step
above_steps d room e =
    Fits (end_sum_fits d Greatest room e.terms)
    ∷ Holds (int_lt (end_sum d Greatest room e.terms) e.right)
    ∷ []

-- `miss`: the right side is below the least sum, or above the greatest, which is made only where it
-- decides
abbrev pub miss_steps : ℕ → RoomBounds → EquationContent → List Step
miss_steps d room e =
    Fits (end_sum_fits d Least room e.terms)
    ∷ (if int_lt e.right (end_sum d Least room e.terms) then [] else above_steps d room e)

-- the room with this low bound at a place, or this high bound
unfoldable pub with_low : RoomBounds → ℕ → ℤ → RoomBounds
with_low room y v = slice_set room y (v, (bounds_at room y).1)

unfoldable pub with_high : RoomBounds → ℕ → ℤ → RoomBounds
with_high room y v = slice_set room y ((bounds_at room y).0, v)

-- the greater of the low bound and v, and the lesser of the high bound and v
abbrev pub raised : RoomBounds → ℕ → ℤ → ℤ
raised room y v = if int_lt (bounds_at room y).0 v then v else (bounds_at room y).0

abbrev pub lowered : RoomBounds → ℕ → ℤ → ℤ
lowered room y v = if int_lt v (bounds_at room y).1 then v else (bounds_at room y).1

-- the room with a low bound raised to v, or a high bound lowered to v
abbrev pub low_raised : RoomBounds → ℕ → ℤ → RoomBounds
low_raised room y v = with_low room y (raised room y v)

abbrev pub high_lowered : RoomBounds → ℕ → ℤ → RoomBounds
high_lowered room y v = with_high room y (lowered room y v)
