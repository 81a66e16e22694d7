-- What lines keep: solutions.
use Rattle.std.specs.Prelude.{◌≡◌, true, ℕ, ℤ, ⊤, ◌⊎◌, List, [], ◌∷◌, ◌++◌}
use Rattle.drg_linear.specs.Equations.{EquationContent, MeetsAll, is_equation}
use Rattle.drg_linear.specs.Rooms.{RoomBounds, InRoom, IsSolution}
use Rattle.drg_linear.specs.Closing.{ClosesInOneStep}
use Rattle.drg_derivation.specs.declared.line.Line.{Line}
use Rattle.drg_rooms.specs.Combinations.{no_equation, combination, combination_fits_from}
use Rattle.drg_rooms.specs.Content.{BranchesContent}
use Rattle.drg_rooms.specs.Steps.{first_failure}
use Rattle.drg_rooms.specs.Lines.{steps_of, after}
use Rattle.drg_rooms.specs.Answers.{IsMet}

-- the assignment lies in one of the rooms
abbrev pub InSome : (ℕ → ℤ) → List RoomBounds → Type 0
InSome x [] = ⊥
InSome x (room ∷ kept) = InRoom x room ⊎ InSome x kept

-- the assignment meets all equations made so far and lies in an open branch
abbrev pub IsKept : (ℕ → ℤ) → BranchesContent → Type 0
IsKept x k = MeetsAll k.d x k.equations × InSome x k.branches

-- each line that is met keeps what is kept
abbrev pub KeepsSolutions : Type 0
KeepsSolutions =
    (k : BranchesContent) (line : Line) (x : ℕ → ℤ)
    → IsMet k line → IsKept x k → IsKept x (after line k)

-- ---- Whole runs

-- an equation of the system is made, or a line is taken
pub data Event : Type 0 where
  Made : EquationContent → Event
  Taken : Line → Event

abbrev pub content_after : Event → BranchesContent → BranchesContent
content_after (Made e) k = record k { equations = k.equations ++ e ∷ [] }
content_after (Taken line) k = after line k

-- what the events make of one open branch with this room, the newest event first
abbrev pub content_of : ℕ → RoomBounds → List Event → BranchesContent
content_of d room [] = record { d = d; equations = []; branches = room ∷ [] }
content_of d room (event ∷ earlier) = content_after event (content_of d room earlier)

abbrev pub EventIsMet : BranchesContent → Event → Type 0
EventIsMet k (Made e) = ⊤
EventIsMet k (Taken line) = IsMet k line

-- each line is met after the events before it
abbrev pub EventsAreMet : ℕ → RoomBounds → List Event → Type 0
EventsAreMet d room [] = ⊤
EventsAreMet d room (event ∷ earlier) =
    EventsAreMet d room earlier × EventIsMet (content_of d room earlier) event

-- the equations of the system
abbrev pub made_by : List Event → List EquationContent
made_by [] = []
made_by (Made e ∷ earlier) = e ∷ made_by earlier
made_by (Taken line ∷ earlier) = made_by earlier

-- lines that close every branch leave no solution within the room
abbrev pub NoSolutionLeft : Type 0
NoSolutionLeft =
    (d : ℕ) (room : RoomBounds) (events : List Event) (x : ℕ → ℤ)
    → EventsAreMet d room events
    → (content_of d room events).branches ≡ []
    → IsSolution d room (made_by events) x
    → ⊥

-- ---- One step

-- a room that closes in one step holds no solution
abbrev pub ClosedHoldsNone : Type 0
ClosedHoldsNone =
    (d : ℕ) (room : RoomBounds) (equations : List EquationContent) (x : ℕ → ℤ)
    → ClosesInOneStep d room equations → IsSolution d room equations x → ⊥

-- ---- Combinations

-- where its work numbers are in range, a combination has its unknowns in order, no coefficient 0
-- and no number out of range
abbrev pub CombinationIsEquation : Type 0
CombinationIsEquation =
    (equations : List EquationContent) (values : List ℤ)
    → combination_fits_from equations no_equation values ≡ true
    → is_equation (combination equations values) ≡ true

-- ---- The room in hand

-- an open branch with this room, before the branches that are kept for later
abbrev pub with_kept : ℕ → List EquationContent → RoomBounds → List RoomBounds → BranchesContent
with_kept d equations room kept = record { d = d; equations = equations; branches = room ∷ kept }

-- what a line comes to depends on the equations and on the room in hand alone
abbrev pub AnswerOfTheRoom : Type 0
AnswerOfTheRoom =
    (d : ℕ) (equations : List EquationContent) (room : RoomBounds) (kept : List RoomBounds)
    (line : Line)
    → first_failure (steps_of (with_kept d equations room kept) line)
    ≡ first_failure (steps_of (with_kept d equations room []) line)

-- and so does what it makes, which stands before the branches kept for later
abbrev pub EffectOnTheRoom : Type 0
EffectOnTheRoom =
    (d : ℕ) (equations : List EquationContent) (room : RoomBounds) (kept : List RoomBounds)
    (line : Line)
    → after line (with_kept d equations room kept)
    ≡ (let alone = after line (with_kept d equations room []) in
    record alone { branches = alone.branches ++ kept })
