-- Rooms within a room.
use Rattle.std.specs.Prelude.{◌≡◌, ◌≤ℤ◌, ℕ}
use Rattle.drg_linear.specs.Rooms.{RoomContent, IsRoom, bounds_at}

-- a room, of which no bound is beyond those of the whole room
pub record IsPart (whole room : RoomContent) : Type 0 where
  pub is_room : IsRoom room
  pub d : room.d ≡ whole.d
  pub low : (k : ℕ) → (bounds_at whole.bounds k).0 ≤ℤ (bounds_at room.bounds k).0
  pub high : (k : ℕ) → (bounds_at room.bounds k).1 ≤ℤ (bounds_at whole.bounds k).1
