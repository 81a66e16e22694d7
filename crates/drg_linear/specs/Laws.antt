-- Laws of rounding and of sums in a room.
use Rattle.std.specs.Prelude.{◌≡◌, ℕ, ℤ, pos, ◌*ℤ◌, ◌≤ℤ◌, ◌<ℤ◌, List}
use Rattle.drg_linear.specs.Equations.{Term, value_from}
use Rattle.drg_linear.specs.declared.bounds.End.TheVariants.{Least, Greatest}
use Rattle.drg_linear.specs.Rooms.{RoomBounds, InRoom, end_sum}
use Rattle.drg_linear.specs.Rounding.{ceiling, floor}

-- the whole numbers z with z >= m/a
abbrev pub Reaches : ℤ → ℤ → ℤ → Type 0
Reaches m a z = (pos 0 <ℤ a → m ≤ℤ (a *ℤ z)) × (a <ℤ pos 0 → (a *ℤ z) ≤ℤ m)

-- the whole numbers z with z <= m/a
abbrev pub StaysBelow : ℤ → ℤ → ℤ → Type 0
StaysBelow m a z = (pos 0 <ℤ a → (a *ℤ z) ≤ℤ m) × (a <ℤ pos 0 → m ≤ℤ (a *ℤ z))

-- the ceiling reaches m/a, and is the least that does
abbrev pub CeilingIsLeast : Type 0
CeilingIsLeast =
    (m a : ℤ) → ¬ (a ≡ pos 0)
    → Reaches m a (ceiling m a) × ((z : ℤ) → Reaches m a z → ceiling m a ≤ℤ z)

-- the floor stays below m/a, and is the greatest that does
abbrev pub FloorIsGreatest : Type 0
FloorIsGreatest =
    (m a : ℤ) → ¬ (a ≡ pos 0)
    → StaysBelow m a (floor m a) × ((z : ℤ) → StaysBelow m a z → z ≤ℤ floor m a)

-- in a room the value of terms lies between their least and their greatest sum
abbrev pub SumsBoundValue : Type 0
SumsBoundValue =
    (d : ℕ) (room : RoomBounds) (x : ℕ → ℤ) (terms : List Term) → InRoom x room
    → (end_sum d Least room terms ≤ℤ value_from d x (pos 0) terms)
    × (value_from d x (pos 0) terms ≤ℤ end_sum d Greatest room terms)
