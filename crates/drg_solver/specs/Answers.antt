-- What the answers of a search mean.
use Rattle.std.specs.Prelude.{◌≡◌, ◌≤◌, ◌*◌, ℕ, ℤ, ⊤, List, [], ◌∷◌, ◌++◌, length}
use Rattle.drg_derivation.specs.declared.line.Line.{Line}
use Rattle.drg_linear.specs.declared.system.Branching.{Branching}
use Rattle.drg_linear.specs.Assignments.{AssignmentContent, number_at}
use Rattle.drg_linear.specs.Equations.{EquationContent}
use Rattle.drg_linear.specs.Rooms.{IsSolution}
use Rattle.drg_linear.specs.Splits.{AreLive}
use Rattle.drg_linear.specs.Systems.{SystemContent}
use Rattle.drg_rooms.specs.Content.{BranchesContent}
use Rattle.drg_solver.specs.Lines.{NameEach, CloseAll}
use Rattle.drg_solver.specs.declared.outcome.Outcome.{Outcome}
use Rattle.drg_solver.specs.declared.outcome.Outcome.TheVariants.{Solution, Closed, Spent}

-- the numbers solve the system
pub record Solves (s : SystemContent) (values : AssignmentContent) : Type 0 where
  pub d : values.d ≡ s.room.d
  pub solution : IsSolution s.room.d s.room.bounds s.equations (number_at values.values)

-- one open branch, the room of the system, after these equations
abbrev pub opened : SystemContent → List EquationContent → BranchesContent
opened s made = record { d = s.room.d; equations = made; branches = s.room.bounds ∷ [] }

-- Lines that close the system: first those that name equations of it, at least one, and then lines
-- that close every branch of its room by these equations. The system has no solution.
pub record IsClosing (s : SystemContent) (lines : List Line) : Type 0 where
  pub names : List Line
  pub made : List EquationContent
  pub room_lines : List Line
  pub whole : lines ≡ names ++ room_lines
  pub named : NameEach s names made
  pub some : 1 ≤ length names
  pub closed : CloseAll (opened s made) 0 room_lines
  pub none : (x : ℕ → ℤ) → IsSolution s.room.d s.room.bounds s.equations x → ⊥

-- The budget is spent: that many branches were opened, at most two for each split, and the splits
-- are live.
pub record IsSpent (s : SystemContent) (budget branches : ℕ) (splits : List Branching)
    : Type 0 where
  pub opened : branches ≡ budget
  pub earned : branches ≤ 2 * length splits
  pub live : AreLive s.room.d s.equations s.room.bounds splits

-- what each answer says
abbrev pub IsAnswer : SystemContent → ℕ → Outcome → Type 0
IsAnswer s budget (Solution values) = Solves s values
IsAnswer s budget (Closed lines) = IsClosing s lines.items
IsAnswer s budget (Spent branches splits) = IsSpent s budget branches splits.items

-- a solution, or that there is none
abbrev pub IsDecided : Outcome → Type 0
IsDecided (Solution values) = ⊤
IsDecided (Closed lines) = ⊤
IsDecided (Spent branches splits) = ⊥
