-- What the lines so far have made.
use Rattle.std.specs.Prelude.{ℕ, List}
use Rattle.drg_linear.specs.Equations.{EquationContent}
use Rattle.drg_linear.specs.Rooms.{RoomBounds}

pub record BranchesContent : Type 0 where
  -- the numbers of the unknowns are from 1 to d
  pub d : ℕ
  -- the equations made, in their order
  pub equations : List EquationContent
  -- the rooms of the open branches, the one in hand first
  pub branches : List RoomBounds
