-- The branches kept for later, as changes that lead back to their rooms.
use Rattle.std.specs.Prelude.{◌≡◌, ℕ, ℤ, Bool, true, false, List, [], ◌∷◌, reverse, slice_set, Option, Some, None}
use Rattle.drg_linear.specs.Rooms.{RoomBounds, Bounds}
use Rattle.drg_rooms.specs.declared.trail.Change.{Change}

-- the kept half of the room before a change, in front of the rooms kept before it
abbrev pub with_half : Option ℤ → RoomBounds → Change → List RoomBounds → List RoomBounds
with_half None room c rooms = rooms
with_half (Some low) room c rooms = slice_set room c.place (low, c.before.1) ∷ rooms

-- the rooms kept by these changes, the newest change first, which led to this room
abbrev pub kept_rooms : RoomBounds → List Change → List RoomBounds
kept_rooms room [] = []
kept_rooms room (c ∷ cs) = with_half c.kept room c (kept_rooms (slice_set room c.place c.before) cs)

-- all open branches, the one in hand first
abbrev pub rooms_of : Bool → RoomBounds → List Change → List RoomBounds
rooms_of true room changes = room ∷ kept_rooms room changes
rooms_of false room changes = []

-- from any room the new changes lead to the rooms to which the old ones lead from the room with
-- these bounds at a place
pub record LeadBack (old : List Change) (place : ℕ) (before : Bounds) (new : List Change) : Type 0 where
  pub back : (room : RoomBounds)
      → kept_rooms room (reverse new) ≡ kept_rooms (slice_set room place before) (reverse old)
