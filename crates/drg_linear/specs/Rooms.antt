-- Rooms: a low and a high bound for each unknown, and the sums of terms within them.
use Rattle.std.specs.Prelude.{◌≡◌, ◌<◌, ◌^◌, ◌+◌, ◌*◌, ℕ, ℤ, pos, ◌*ℤ◌, ◌-ℤ◌, ◌≤ℤ◌, unsigned_abs, int_le, int_lt, Bool, true, ◌&&◌, if◌then◌else◌, List, [], ◌∷◌, length, map, slice_index_or}
use Rattle.drg_whole.specs.Sums.{sum_from, sum_fits_from}
use Rattle.drg_linear.specs.declared.bounds.End.{End}
use Rattle.drg_linear.specs.declared.bounds.End.TheVariants.{Least, Greatest}
use Rattle.drg_linear.specs.Unknowns.{place}
use Rattle.drg_linear.specs.Equations.{Term, EquationContent, MeetsAll}

-- a low and a high bound; the low one may lie above the high one
abbrev pub Bounds : Type 0
Bounds = ℤ × ℤ

-- the bounds of all unknowns, in their order
abbrev pub RoomBounds : Type 0
RoomBounds = List Bounds

-- the bounds at a place, and 0 and 0 outside the room
abbrev pub bounds_at : RoomBounds → ℕ → Bounds
bounds_at room k = slice_index_or room k (pos 0, pos 0)

-- each number of the assignment lies within its bounds
pub record InRoom (x : ℕ → ℤ) (room : RoomBounds) : Type 0 where
  pub low : (k : ℕ) → (bounds_at room k).0 ≤ℤ x k
  pub high : (k : ℕ) → x k ≤ℤ (bounds_at room k).1

-- the assignment is a solution of the equations in the room
abbrev pub IsSolution : ℕ → RoomBounds → List EquationContent → (ℕ → ℤ) → Type 0
IsSolution d room equations x = InRoom x room × MeetsAll d x equations

-- the bound with which a term adds least, or most: a negative coefficient turns them
abbrev pub end_of : End → Bounds → ℤ → ℤ
end_of Least bounds a = if int_lt (pos 0) a then bounds.0 else bounds.1
end_of Greatest bounds a = if int_lt (pos 0) a then bounds.1 else bounds.0

abbrev pub end_product : ℕ → End → RoomBounds → Term → ℤ
end_product d side room t = t.1 *ℤ end_of side (bounds_at room (place d t.0)) t.1

-- the least, or the greatest, that each term adds
abbrev pub end_products : ℕ → End → RoomBounds → List Term → List ℤ
end_products d side room terms = map (end_product d side room) terms

-- the least or the greatest sum of the terms in the room
abbrev pub end_sum : ℕ → End → RoomBounds → List Term → ℤ
end_sum d side room terms = sum_from (pos 0) (end_products d side room terms)

-- each product and each sum on the way is in range
abbrev pub end_sum_fits : ℕ → End → RoomBounds → List Term → Bool
end_sum_fits d side room terms = sum_fits_from (pos 0) (end_products d side room terms)

-- ---- Rooms of a system

pub record RoomContent : Type 0 where
  -- the numbers of the unknowns are from 1 to d
  pub d : ℕ
  pub bounds : RoomBounds

-- no low bound is negative, or above its high bound
abbrev pub are_ordered : RoomBounds → Bool
are_ordered [] = true
are_ordered (b ∷ bs) = int_le (pos 0) b.0 && int_le b.0 b.1 && are_ordered bs

-- bounds for each unknown, in order
pub record IsRoom (room : RoomContent) : Type 0 where
  pub d : room.d < 2 ^ 8
  pub each : length room.bounds ≡ room.d * room.d * room.d
  pub ordered : are_ordered room.bounds ≡ true

-- high - low, where the bounds are in order
abbrev pub width : Bounds → ℕ
width b = unsigned_abs (b.1 -ℤ b.0)

-- the number of assignments of a room: the product of high - low + 1
abbrev pub points : RoomBounds → ℕ
points [] = 1
points (b ∷ bs) = (width b + 1) * points bs

-- the sum of high - low
abbrev pub slack : RoomBounds → ℕ
slack [] = 0
slack (b ∷ bs) = width b + slack bs
