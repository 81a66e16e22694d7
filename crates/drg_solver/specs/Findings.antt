-- What is found of one leaf.
use Rattle.std.specs.Prelude.{◌≡◌, ◌<ℤ◌, ℕ, ℤ, true, false, List, [], ◌∷◌, All}
use Rattle.drg_derivation.specs.declared.line.Line.{Line}
use Rattle.drg_linear.specs.declared.unknown.Unknown.{Unknown}
use Rattle.drg_linear.specs.Unknowns.{is_unknown, place}
use Rattle.drg_linear.specs.Equations.{Term, EquationContent}
use Rattle.drg_linear.specs.Moduli.{is_free}
use Rattle.drg_linear.specs.Rooms.{RoomBounds, RoomContent, bounds_at}
use Rattle.drg_linear.specs.Closing.{ClosesInOneStep}
use Rattle.drg_linear.specs.Splits.{Divides}
use Rattle.drg_linear.specs.Systems.{SystemContent}
use Rattle.drg_rooms.specs.Content.{BranchesContent}
use Rattle.drg_rooms.specs.Lines.{after}
use Rattle.drg_solver.specs.Lines.{IsGood, bounds_after}
use Rattle.drg_solver.specs.Answers.{Solves}
use Rattle.drg_solver.specs.declared.finding.Finding.{Finding}
use Rattle.drg_solver.specs.declared.finding.Finding.TheVariants.{Closed, Solved, Divided}

-- the lines, each met in its turn, lead from one state to another; n and m are how many bound lines
-- the branch in hand has
abbrev pub Lead : BranchesContent → ℕ → List Line → BranchesContent → ℕ → Type 0
Lead k n [] l m = (k ≡ l) × (n ≡ m)
Lead k n (line ∷ lines) l m = IsGood k n line × Lead (after line k) (bounds_after line n) lines l m

-- the rooms of the open branches, after these equations
abbrev pub state : ℕ → List EquationContent → List RoomBounds → BranchesContent
state d equations rooms = record { d = d; equations = equations; branches = rooms }

-- an unknown with more than one value
pub record IsFree (room : RoomContent) (u : Unknown) : Type 0 where
  pub unknown : is_unknown room.d u ≡ true
  pub bounds :
      (bounds_at room.bounds (place room.d u)).0 <ℤ (bounds_at room.bounds (place room.d u)).1

-- no unknown of these terms has more than one value
abbrev pub NoneFree : RoomContent → List Term → Type 0
NoneFree room terms = All (λ t. is_free room.d room.bounds t ≡ false) terms

-- lines that close the room, whatever branches are kept for later
abbrev pub CloseLeaf : SystemContent → RoomContent → List Line → Type 0
CloseLeaf s room lines =
    (kept : List RoomBounds)
    → Lead (state s.room.d s.equations (room.bounds ∷ kept)) 0 lines
    (state s.room.d s.equations kept) 0

-- two sides that aren't empty, of a room that doesn't close in one step
pub record IsDivided (s : SystemContent) (room : RoomContent) (u : Unknown) (v : ℤ)
    : Type 0 where
  pub unclosed : ClosesInOneStep s.room.d room.bounds s.equations → ⊥
  pub unknown : is_unknown s.room.d u ≡ true
  pub sides : Divides room.bounds (place s.room.d u) v

abbrev pub IsRight : SystemContent → RoomContent → Finding → Type 0
IsRight s room (Closed lines) = CloseLeaf s room lines.items
IsRight s room (Solved values) = Solves s values
IsRight s room (Divided unknown v) = IsDivided s room unknown v
