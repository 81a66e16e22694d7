-- What a call that takes a line comes to.
use Rattle.std.specs.Prelude.{◌≡◌, Bool, true, false, ℤ, ⊤, List, Result, Ok, Err}
use Rattle.drg_linear.specs.Equations.{Term, EquationContent}
use Rattle.drg_rooms.specs.Combinations.{comb_steps, combination}
use Rattle.drg_derivation.specs.declared.line.Line.{Line}
use Rattle.drg_rooms.specs.declared.refusal.Refusal.{Refusal}
use Rattle.drg_rooms.specs.declared.refusal.Refusal.TheVariants as refusal
use Rattle.drg_rooms.specs.declared.fault.RoomFault.{RoomFault}
use Rattle.drg_rooms.specs.declared.fault.RoomFault.TheVariants as fault
use Rattle.drg_rooms.specs.declared.fault.Fault.{Fault}
use Rattle.drg_rooms.specs.declared.fault.Fault.TheVariants as inner
use Rattle.drg_rooms.specs.Steps.{first_failure}
use Rattle.drg_rooms.specs.Content.{BranchesContent}
use Rattle.drg_rooms.specs.Lines.{steps_of, after}

-- the line is met after what was made before
abbrev pub IsMet : BranchesContent → Line → Type 0
IsMet k line = first_failure (steps_of k line) ≡ Ok tt

-- it isn't, by this refusal
abbrev pub IsRefused : BranchesContent → Line → Refusal → Type 0
IsRefused k line r = first_failure (steps_of k line) ≡ Err r

-- Ok where all steps pass, with what the line makes; else the first step that fails, or want of
-- memory, and nothing changed
abbrev pub TakesRoomLine : Result ⊤ RoomFault → BranchesContent → Line → BranchesContent → Type 0
TakesRoomLine (Ok t) old line new = IsMet old line × (new ≡ after line old)
TakesRoomLine (Err fault.NotMet) old line new = IsRefused old line refusal.NotMet × (new ≡ old)
TakesRoomLine (Err fault.Wide) old line new = IsRefused old line refusal.Wide × (new ≡ old)
TakesRoomLine (Err fault.Memory) old line new = new ≡ old

-- the same, with the refusal apart
abbrev pub TriesRoomLine : Result ⊤ Fault → BranchesContent → Line → BranchesContent → Type 0
TriesRoomLine (Ok t) old line new = IsMet old line × (new ≡ after line old)
TriesRoomLine (Err (inner.Refused r)) old line new = IsRefused old line r × (new ≡ old)
TriesRoomLine (Err inner.Memory) old line new = new ≡ old

-- a call that adds to a sum of terms
abbrev pub Adds : Result ⊤ Fault → Bool → List Term → List Term → Type 0
Adds (Ok t) fits after new = (fits ≡ true) × (new ≡ after)
Adds (Err (inner.Refused r)) fits after new = (fits ≡ false) × (r ≡ refusal.Wide)
Adds (Err inner.Memory) fits after new = ⊤

-- a call fails for want of memory, or because a work number doesn't fit
abbrev pub FailsWide : Fault → Bool → Type 0
FailsWide (inner.Refused r) fits = (fits ≡ false) × (r ≡ refusal.Wide)
FailsWide inner.Memory fits = ⊤

-- a call that adds to a sum of equations, and gives its right side
abbrev pub AddsEquation : Result ℤ Fault → Bool → EquationContent → List Term → Type 0
AddsEquation (Ok right) fits after new = (fits ≡ true) × (new ≡ after.terms) × (right ≡ after.right)
AddsEquation (Err (inner.Refused r)) fits after new = (fits ≡ false) × (r ≡ refusal.Wide)
AddsEquation (Err inner.Memory) fits after new = ⊤

-- a call that makes the equation of a `comb` line
abbrev pub Combines : Result EquationContent Fault → List EquationContent → List ℤ → Type 0
Combines (Ok e) equations values =
    (first_failure (comb_steps equations values) ≡ Ok tt) × (e ≡ combination equations values)
Combines (Err (inner.Refused r)) equations values =
    first_failure (comb_steps equations values) ≡ Err r
Combines (Err inner.Memory) equations values = ⊤
