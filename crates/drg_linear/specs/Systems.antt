-- Systems: equations that fit over a room, with their names.
use Rattle.std.specs.Prelude.{◌≡◌, ◌<◌, ◌^◌, ◌+◌, ◌*◌, ℕ, unsigned_abs, Bool, true, ◌&&◌, List, [], ◌∷◌, length, All}
use Rattle.drg_linear.specs.declared.system.EquationName.{EquationName}
use Rattle.drg_linear.specs.Unknowns.{is_unknown, place}
use Rattle.drg_linear.specs.Equations.{Term, EquationContent}
use Rattle.drg_linear.specs.Rooms.{RoomBounds, RoomContent, bounds_at}

pub record SystemContent : Type 0 where
  pub room : RoomContent
  pub names : List EquationName
  pub equations : List EquationContent

-- the sum of |coefficient|·high
abbrev pub weight : ℕ → RoomBounds → List Term → ℕ
weight d room [] = 0
weight d room (t ∷ ts) =
    unsigned_abs t.1 * unsigned_abs (bounds_at room (place d t.0)).1 + weight d room ts

-- each unknown has its numbers from 1 to d
abbrev pub are_unknowns : ℕ → List Term → Bool
are_unknowns d [] = true
are_unknowns d (t ∷ ts) = is_unknown d t.0 && are_unknowns d ts

-- an equation over unknowns of the room whose numbers stay in range at all numbers in the room
pub record FitsOver (room : RoomContent) (e : EquationContent) : Type 0 where
  pub unknowns : are_unknowns room.d e.terms ≡ true
  pub fits : weight room.d room.bounds e.terms + unsigned_abs e.right < 2 ^ 127

pub record IsSystem (s : SystemContent) : Type 0 where
  pub named : length s.names ≡ length s.equations
  pub fit : All (FitsOver s.room) s.equations
