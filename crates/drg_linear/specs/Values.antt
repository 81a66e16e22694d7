-- The values that an equation leaves to an unknown in a room.
use Rattle.std.specs.Prelude.{ℕ, ℤ, pos, ◌-ℤ◌, int_lt, if◌then◌else◌}
use Rattle.drg_linear.specs.declared.unknown.Unknown.{Unknown}
use Rattle.drg_linear.specs.Equations.{EquationContent, coefficient_of, rest_of}
use Rattle.drg_linear.specs.declared.bounds.End.{End}
use Rattle.drg_linear.specs.declared.bounds.End.TheVariants.{Least, Greatest}
use Rattle.drg_linear.specs.Rooms.{RoomBounds, end_sum}
use Rattle.drg_linear.specs.Rounding.{ceiling, floor}

-- which sum of the rest leaves the unknown its least value: the greatest where the coefficient is
-- positive
abbrev pub least_by : ℤ → End
least_by a = if int_lt (pos 0) a then Greatest else Least

abbrev pub greatest_by : ℤ → End
greatest_by a = if int_lt (pos 0) a then Least else Greatest

-- the right side less that sum of the rest: coefficient times unknown goes to this number
abbrev pub left_by : ℕ → End → RoomBounds → Unknown → EquationContent → ℤ
left_by d side room u e = e.right -ℤ end_sum d side room (rest_of u e.terms)

-- the least value that the equation leaves to the unknown
unfoldable pub least_value : ℕ → RoomBounds → Unknown → EquationContent → ℤ
least_value d room u e =
    let a = coefficient_of u e.terms in ceiling (left_by d (least_by a) room u e) a

-- the greatest value that the equation leaves to the unknown
unfoldable pub greatest_value : ℕ → RoomBounds → Unknown → EquationContent → ℤ
greatest_value d room u e =
    let a = coefficient_of u e.terms in floor (left_by d (greatest_by a) room u e) a
